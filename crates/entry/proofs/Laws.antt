-- What an entry hands back, in its two cases.
use mathlib.Core.Path.{◌≡◌}
use mathlib.Core.Bool.{true, false}
use mathlib.Core.List.{List, [], ◌∷◌}
use Prim.Native.Nat.{ℕ}
use Rattle.slices.specs.Over.{over}
use Rattle.wlan.specs.Outcome.{refusal_of, value_of}
use Rattle.definition.specs.Prog.{world}
use Rattle.definition.specs.Calls.{Call}
use Rattle.definition.specs.Run.{End, called}
use Rattle.wlan.specs.declared.State.{State}
use Rattle.session_bytes.specs.Session.{session_bytes, session_in, is_session}
use Rattle.entry.specs.Entry.{shown, session_at, handed, entered}

pub handed-is : (e : End) (result₀ : List ℕ) (r v : ℕ) (session result : List ℕ) → r ≡ refusal_of e.outcome → v ≡ value_of e.outcome
    → session ≡ session_bytes (session_at e) → is_session (session_bytes (session_at e)) ≡ true → session_in (session_bytes (session_at e)) ≡ session_at e
    → result ≡ over result₀ 0 (v ∷ e.len ∷ []) → shown r session e.log e.buf e.output result ≡ handed result₀ e
unfolding handed
handed-is e result₀ r v session result er ev es k h eo = rw (er, es, k, h, eo, ev)

module _ (c : Call) (session rec log buf out result : List ℕ) where
  -- s: the session's state
  pub entered-known : (s : State) (e : End) → is_session session ≡ true → s ≡ (session_in session).st → e ≡ called c (world s buf (session_in session).list) rec log out
      → handed result e ≡ entered c session rec log buf out result
  unfolding entered
  entered-known s e h es ee = rw (ee, es, h)

  pub entered-none : is_session session ≡ false → shown 100 session log buf out result ≡ entered c session rec log buf out result
  unfolding entered
  entered-none h = rw h
