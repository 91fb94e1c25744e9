-- take, which logs nothing.
use mathlib.Core.Path.{◌≡◌, sym, ap, ◌∙◌}
use mathlib.Core.Bool.{Bool, true, false}
use mathlib.Core.List.{List, []}
use Prim.Native.Nat.{ℕ, ◌+◌}
use lib.Dec.{ltb}
use lib.ListN.{length, take, drop}
use borrow.Author.Tests.{eq-eqb, ne_eqb}
use Rattle.slices.specs.Pick.{pick}
use Rattle.slices.specs.Over.{over}
use Rattle.slices.proofs.Over.{over-nil}
use Rattle.wlan.specs.declared.DriverError.{DriverError}
use Rattle.wlan.specs.declared.Refusal.{Refusal}
use Rattle.wlan.specs.declared.Success.{Success}
use Rattle.wlan.specs.declared.PendingBuf.{PendingBuf}
use Rattle.definition.specs.Bus.{Bytes, log_of, answers}
use Rattle.definition.specs.Prog.{World, ret, stop}
use Rattle.definition.specs.Calls.{Call, call, taken, frameless}
use Rattle.definition.specs.Run.{shown, run, finished, called, run_of}
use Rattle.going.specs.Onward.{end_of, with_list}
use Rattle.going.proofs.Going.{run_ret, run-stop}
use Rattle.ending.specs.Take.{ended, driver_error, frameless_state, frame_taken}
use Rattle.std.specs.Prelude.{Some, None, Ok, Err}
use Rattle.wlan.specs.Results.{Outcome}

module _ (w : World) (rec log : List ℕ) (out : Bytes) where
  -- what is shown where nothing is logged
  shown-is : (o : Outcome) (b : Bytes) (v : World) → shown log out (finished o b v) ≡ end_of (with_list (ended o v.st) v.list) log v.buf (over out 0 b)
  unfolding shown log_of
  shown-is o b v = rw over-nil

  stopped-is : (x : DriverError) (v : World) → shown log out (run w (answers rec) (length log) (stop x v)) ≡ end_of (with_list (driver_error x v.st) v.list) log v.buf out
  stopped-is x v = rw (run-stop w (answers rec) (length log) x v, shown-is (Err (Refusal.Driver x)) [] v, over-nil)

  pub take-13 : (length w.buf ≡ 2048 → ⊥) → end_of (with_list (ended (Err Refusal.BufferLength) w.st) w.list) log w.buf out ≡ called (Call.get_rx_buf (length out)) w rec log out
  unfolding called run_of
  take-13 h = rw (ne_eqb (length w.buf) 2048 h, shown-is (Err Refusal.BufferLength) [] w, over-nil)

  module _ (h : length w.buf ≡ 2048) where
    pub take_none : w.st.pending.rx ≡ None → end_of (with_list (driver_error DriverError.WouldBlock w.st) w.list) log w.buf out ≡ called (Call.get_rx_buf (length out)) w rec log out
    unfolding called run_of call taken
    take_none r = rw (eq-eqb (length w.buf) 2048 h) (sym (stopped-is DriverError.WouldBlock w) ∙ ap (λ x. shown log out (run w (answers rec) (length log) (taken (length out) x w))) (sym r))

    pub take-some : (f : PendingBuf) → w.st.pending.rx ≡ Some f → frame_taken f w log out ≡ called (Call.get_rx_buf (length out)) w rec log out
    unfolding called run_of call taken frame_taken
    take-some f r =
        rw (eq-eqb (length w.buf) 2048 h, h)
        (by (ltb (length out) f.len) (ltb 2048 (f.offset + f.len)) ∙ ap (λ x. shown log out (run w (answers rec) (length log) (taken (length out) x w))) (sym r))
      where
        by : (s t : Bool) → pick s (end_of (with_list (driver_error DriverError.NoMem (frameless_state w.st)) w.list) log w.buf out) (pick t (end_of (with_list (driver_error DriverError.PastBuffer (frameless_state w.st)) w.list) log w.buf out) (end_of (with_list (ended (Ok (Success.Taken f.len)) (frameless_state w.st)) w.list) log w.buf (over out 0 (take f.len (drop f.offset w.buf))))) ≡ shown log out (run w (answers rec) (length log) (pick s (stop DriverError.NoMem (frameless w)) (pick t (stop DriverError.PastBuffer (frameless w)) (ret (record { success = Success.Taken f.len; output = take f.len (drop f.offset w.buf) }) (frameless w)))))
        by true t = sym (stopped-is DriverError.NoMem (frameless w))
        by false true = sym (stopped-is DriverError.PastBuffer (frameless w))
        by false false = sym (rw (run_ret w (answers rec) (length log) _ (frameless w)) (shown-is (Ok (Success.Taken f.len)) _ (frameless w)))
