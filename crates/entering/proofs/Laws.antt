-- What is handed back, by what the run left.
use Prim.Native.Nat.{ℕ}
use mathlib.Core.Path.{◌≡◌, refl, sym, ap, ◌∙◌}
use mathlib.Core.Bool.{true, false}
use mathlib.Core.List.{List, [], ◌∷◌}
use lib.ListN.{length}
use borrow.Author.Tests.{eq-eqb, ne_eqb}
use Rattle.slices.specs.Over.{over}
use Rattle.definition.specs.Bus.{Bytes}
use Rattle.definition.specs.Prog.{World, world}
use Rattle.definition.specs.Calls.{Call}
use Rattle.definition.specs.Run.{End, called}
use Rattle.session_bytes.specs.Session.{session_bytes, session_in, is_session}
use Rattle.session_bytes.proofs.Laws.{session-form}
use Rattle.run_end.specs.declared.RunEnd.{RunEnd}
use Rattle.run_end.specs.RunEnd.{number_by}
use Rattle.run_end.proofs.Laws.{number_is}
use Rattle.turning.specs.Turning as turning
use Rattle.runs.specs.Runs.{Left}
use Rattle.taking.specs.Taking.{Leaves}
use Rattle.runs.proofs.Called.{called-13}
use Rattle.entry.specs.Entry.{shown, handed, session_at}
use Rattle.entry.proofs.Laws.{handed-is}
use Rattle.entering.specs.Entering as to

-- bytes of another length are no session's
pub other-session : (b : List ℕ) → (length b ≡ 1393 → ⊥) → is_session b ≡ false
unfolding is_session
other-session b h = rw (ne_eqb (length b) 1393 h)

-- the session's bytes hold what e says
at-end : (e : End) (session : List ℕ) (buf : Bytes) → turning.world_in session buf ≡ world e.st e.buf e.list → session_in session ≡ session_at e
at-end e session buf h = ap (λ (w : World). record { st = w.st; list = w.list }) h

pub handed-take : (e : End) (r : RunEnd) (result₀ session log result : List ℕ) (buf out : Bytes) (x : ℕ) → Leaves e log session buf out r → x ≡ number_by r.kind → result ≡ over result₀ 0 (r.value ∷ r.len ∷ []) → shown x session log buf out result ≡ handed result₀ e
handed-take e r result₀ session log result buf out x h ex eo =
    let s = h.stands in
    let f : session_bytes (session_at e) ≡ session = ap session_bytes (sym (at-end e session buf s)) ∙ session-form session h.held in
    let n = ex ∙ (ap number_by h.tells.kind ∙ number_is e.outcome) in
    let g : shown x session e.log e.buf e.output result ≡ handed result₀ e = handed-is e result₀ x r.value session result n h.tells.value (sym f) (ap is_session f ∙ h.held) (ap session_in f ∙ at-end e session buf s) (rw h.len at eo) in
    rw (h.log, h.output, ap (λ (v : World). v.buf) s) g

-- a call without an output
pub handed-end : (e : End) (r : RunEnd) (result₀ session log result : List ℕ) (buf : Bytes) (x : ℕ) → Left e log session buf r → x ≡ number_by r.kind → result ≡ over result₀ 0 (r.value ∷ r.len ∷ []) → shown x session log buf [] result ≡ handed result₀ e
handed-end e r result₀ session log result buf x h =
    handed-take e r result₀ session log result buf [] x (record { tells = h.tells; len = h.len; log = h.log; output = sym h.output; held = h.held; stands = h.stands })

-- 13, 100, and a session
module _ (c : Call) (session rec log result : List ℕ) (buf : Bytes) where
  abbrev w : World
  w = turning.world_in session buf

  pub entered-none : (n : ℕ) → is_session session ≡ false → shown 100 session log buf [] result ≡ to.entered c session n rec log buf [] result
  unfolding to.entered
  entered-none n h = rw h refl

  pub entered_here : (n : ℕ) → is_session session ≡ true → n ≡ 3444 → handed result (called c w rec log []) ≡ to.entered c session n rec log buf [] result
  unfolding to.entered
  entered_here n h e = rw (h, eq-eqb n 3444 e) refl

  other-handed : (x : ℕ) (result' : List ℕ) → is_session session ≡ true → x ≡ 13 → result' ≡ over result 0 (0 ∷ 0 ∷ []) → shown x session log buf [] result' ≡ handed result (to.other_length w log [])
  other-handed x result' h ex er =
      let f : session_bytes (session_in session) ≡ session = session-form session h in
      handed-is (to.other_length w log []) result x 0 session result' ex refl (sym f) (ap is_session f ∙ h) (ap session_in f) er

  other-is : (n : ℕ) → is_session session ≡ true → (n ≡ 3444 → ⊥) → handed result (to.other_length w log []) ≡ to.entered c session n rec log buf [] result
  unfolding to.entered
  other-is n h d = rw (h, ne_eqb n 3444 d) refl

  pub entered-other : (n : ℕ) (x : ℕ) (result' : List ℕ) → is_session session ≡ true → (n ≡ 3444 → ⊥) → x ≡ 13 → result' ≡ over result 0 (0 ∷ 0 ∷ []) → shown x session log buf [] result' ≡ to.entered c session n rec log buf [] result
  entered-other n x result' h d ex er = other-handed x result' h ex er ∙ other-is n h d

  -- a work buffer of another length
  buffer-other : (length buf ≡ 2048 → ⊥) → called c w rec log [] ≡ to.other_length w log []
  buffer-other d = sym (called-13 w.st buf w.list rec log c d)

  pub entered-buffer : (n : ℕ) (x : ℕ) (result' : List ℕ) → is_session session ≡ true → n ≡ 3444 → (length buf ≡ 2048 → ⊥) → x ≡ 13 → result' ≡ over result 0 (0 ∷ 0 ∷ []) → shown x session log buf [] result' ≡ to.entered c session n rec log buf [] result
  entered-buffer n x result' h e d ex er = other-handed x result' h ex er ∙ (ap (handed result) (sym (buffer-other d)) ∙ entered_here n h e)
