-- What take computes.
use Rattle.std.specs.Prelude.{ℕ, ◌+◌, List, ltb, length, take, drop, None, Ok, Err}
use Rattle.slices.specs.Pick.{pick}
use Rattle.slices.specs.Over.{over}
use Rattle.wlan.specs.State.{with_pending, set_frame}
use Rattle.wlan.specs.declared.DriverError.{DriverError}
use Rattle.wlan.specs.declared.Refusal.{Refusal}
use Rattle.wlan.specs.declared.Success.{Success}
use Rattle.wlan.specs.declared.PendingBuf.{PendingBuf}
use Rattle.wlan.specs.declared.State.{State}
use Rattle.definition.specs.Bus.{Bytes}
use Rattle.definition.specs.Prog.{World}
use Rattle.definition.specs.Run.{End}
use Rattle.going.specs.declared.StateEnd.{StateEnd}
use Rattle.going.specs.Onward.{end_of, with_list}
use Rattle.wlan.specs.Results.{Outcome}

abbrev pub ended : Outcome → State → StateEnd
ended o s = record { outcome = o; st = s; len = 0 }

abbrev pub driver_error : DriverError → State → StateEnd
driver_error e s = ended (Err (Refusal.Driver e)) s

abbrev pub frameless_state : State → State
frameless_state s = with_pending s (set_frame s.pending None)

unfoldable pub frame_taken : PendingBuf → World → List ℕ → Bytes → End
frame_taken f w log out =
    let s = frameless_state w.st in
    pick (ltb (length out) f.len) (end_of (with_list (driver_error DriverError.NoMem s) w.list) log w.buf out)
    (pick (ltb (length w.buf) (f.offset + f.len)) (end_of (with_list (driver_error DriverError.PastBuffer s) w.list) log w.buf out)
    (end_of (with_list (ended (Ok (Success.Taken f.len)) s) w.list) log w.buf (over out 0 (take f.len (drop f.offset w.buf)))))
