-- The longest log of the C entry: it returns what the definition says, so the theorem over the definition is its own.
use mathlib.Core.Path.{◌≡◌, refl, ap}
use mathlib.Core.List.{List, [], ◌∷◌}
use Prim.Native.Nat.{ℕ, ◌≤◌}
use native.Mathlib.Omega.{arith}
use lib.Dec.{eqb}
use lib.ListN.{length, get_or}
use Rattle.slices.specs.Over.{over}
use Rattle.slices.proofs.Over.{get_or-over-in}
use Rattle.slices.proofs.Pick.{by-pick}
use Rattle.wlan.specs.Outcome.{refusal_of, value_of}
use Rattle.wlan.specs.declared.DriverError.{DriverError}
use Rattle.wlan.specs.declared.Refusal.{Refusal}
use Rattle.definition.specs.Bus.{Bytes}
use Rattle.definition.specs.Calls.{Call}
use Rattle.definition.specs.Run.{End}
use Rattle.definition.specs.Longest.{most}
use Rattle.definition.proofs.Longest.{no_more, never-full}
use Rattle.session_bytes.specs.Session.{is_session}
use Rattle.entry.specs.Entry.{Handed, handed}
use Rattle.entering.specs.Entering.{entered}
use Rattle.longest_calls.specs.CallsLongest.{EntryNeverFull, EntryNoMore}
use Rattle.std.specs.Prelude.{Ok, Err}
use Rattle.wlan.specs.Results.{Outcome}

-- 12 is the number of one refusal
error-not-12 : (e : DriverError) → refusal_of (Err (Refusal.Driver e)) ≡ 12 → ⊥
error-not-12 DriverError.InvalidArg h = omega (arith, h)
error-not-12 DriverError.Timeout h = omega (arith, h)
error-not-12 DriverError.Io h = omega (arith, h)
error-not-12 DriverError.Busy h = omega (arith, h)
error-not-12 DriverError.WouldBlock h = omega (arith, h)
error-not-12 DriverError.NoMem h = omega (arith, h)
error-not-12 (DriverError.Fault p) h = omega (arith, h)
error-not-12 DriverError.EventHeader h = omega (arith, h)
error-not-12 DriverError.PastBuffer h = omega (arith, h)

full_is : (o : Outcome) → refusal_of o ≡ 12 → o ≡ Err Refusal.LogFull
full_is (Ok x) h = absurd (omega (arith, h))
full_is (Err (Refusal.Driver e)) h = absurd (error-not-12 e h)
full_is (Err Refusal.Unrecorded) h = absurd (omega (arith, h))
full_is (Err Refusal.WrongAnswer) h = absurd (omega (arith, h))
full_is (Err Refusal.LogFull) h = refl
full_is (Err Refusal.BufferLength) h = absurd (omega (arith, h))

-- ---- what the definition says of the entry

module _ (session : List ℕ) (n : ℕ) (recording log : List ℕ) (buf : Bytes) (result : List ℕ) where
  abbrev after : Handed
  after = entered Call.wifi_poll session n recording log buf [] result

  refused-12 : most (length recording) ≤ length log → after.refusal ≡ 12 → ⊥
  unfolding entered handed
  refused-12 h =
      by-pick (λ (x : Handed). x.refusal ≡ 12 → ⊥) (is_session session)
      (λ u. by-pick (λ (e : End). refusal_of e.outcome ≡ 12 → ⊥) (eqb n 3444) (λ v i. never-full _ recording log [] (omega (arith, h)) (full_is _ i)) (λ v i. omega (arith, i)))
      (λ u i. omega (arith, i))

  -- result's second number is the length
  laid-bounded : (value len : ℕ) → 2 ≤ length result → len ≤ most (length recording) → get_or (over result 0 (value ∷ len ∷ [])) 1 0 ≤ most (length recording)
  laid-bounded value len h i = rw (get_or-over-in result 0 (value ∷ len ∷ []) 1 0 (omega (arith, h)) (omega arith)) (omega (arith, i))

  length-bounded : 2 ≤ length result → (after.refusal ≡ 100 → ⊥) → get_or after.result 1 0 ≤ most (length recording)
  unfolding entered handed
  length-bounded h =
      by-pick (λ (x : Handed). (x.refusal ≡ 100 → ⊥) → get_or x.result 1 0 ≤ most (length recording)) (is_session session)
      (λ u i. by-pick (λ (e : End). get_or (over result 0 (value_of e.outcome ∷ e.len ∷ [])) 1 0 ≤ most (length recording)) (eqb n 3444)
      (λ v. laid-bounded _ _ h (no_more _ recording log [])) (λ v. laid-bounded _ 0 h (omega arith)))
      (λ u i. absurd (i refl))

-- ---- the theorems, by the entry's contract

pub entry-never-full : EntryNeverFull
entry-never-full κs x r y p h e =
    refused-12 x.session.now (length x.undo.now) x.rec.now x.log.now x.buf.now x.result.now (omega (arith, h)) (rw (ap (λ (t : Handed). t.refusal) p) at e)

pub entry-no-more : EntryNoMore
entry-no-more κs x r y p h e =
    rw (ap (λ (t : Handed). t.result) p)
    (length-bounded x.session.now (length x.undo.now) x.rec.now x.log.now x.buf.now x.result.now (omega (arith, h)) (λ i. e (omega (arith, i, ap (λ (t : Handed). t.refusal) p))))
