-- No poll leaves a longer log than the table says, and a log of so many words is never full.
pub mod Most
pub mod Pays
pub mod Words
pub mod Runs
pub mod Status
pub mod Interrupt
pub mod Poll
pub mod Reached
use mathlib.Core.List.{List}
use Prim.Native.Nat.{ℕ, ◌≤◌}
use native.Mathlib.Omega.{arith}
use lib.Dec.{eqb}
use lib.ListN.{length}
use Rattle.slices.proofs.Pick.{by-pick}
use Rattle.definition.specs.Bus.{log_of, answers}
use Rattle.definition.specs.Prog.{World}
use Rattle.definition.specs.Poll.{poll}
use Rattle.definition.specs.Calls.{Call, call}
use Rattle.definition.specs.Run.{run_of, shown, called}
use Rattle.definition.specs.Longest.{most, NoMore, NeverFull}
use Rattle.definition.proofs.Longest.Most.{most-up}
use Rattle.definition.proofs.Longest.Words.{total, answers-weight}
use Rattle.definition.proofs.Longest.Runs.{Bounded, run-bounded}
use Rattle.definition.proofs.Longest.Poll.{turns, poll-pays}

poll-bounded : (w : World) (recording : List ℕ) (room : ℕ) → Bounded room (most (length recording)) (run_of Call.wifi_poll w recording room)
unfolding run_of call log_of
poll-bounded w recording room =
    by-pick (Bounded room (most (length recording))) (eqb (length w.buf) 2048)
    (λ e.
    let r = run-bounded turns w (answers recording) room (poll w) most (poll-pays w) in
    let i : most (total (answers recording)) ≤ most (length recording) = most-up (total (answers recording)) (length recording) (omega (arith, answers-weight recording 0)) in
    record { fits = omega (arith, i, r.fits); enough = λ h. r.enough (omega (arith, i, h)) })
    (λ e. record { fits = omega arith; enough = λ h. tt })

pub no_more : NoMore
unfolding called shown
no_more w recording log out = (poll-bounded w recording (length log)).fits

pub never-full : NeverFull
unfolding called shown
never-full w recording log out h e = rw e at ((poll-bounded w recording (length log)).enough (omega (arith, h)))
