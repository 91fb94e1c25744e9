-- Every list of calls has a chain, so a theorem over chains speaks of them all.
use mathlib.Core.Path.{◌≡◌, refl}
use mathlib.Core.Bool.{Bool, true, false}
use mathlib.Core.List.{List, [], ◌∷◌}
use Prim.Native.Nat.{ℕ, ◌+◌}
use lib.Dec.{ltb, eqb}
use lib.ListN.{length}
use contract.Lifetimes.{Lfts}
use Rattle.slices.specs.Pick.{pick}
use Rattle.slices.specs.Over.{over}
use Rattle.slices.proofs.Over.{over-nil}
use Rattle.wlan.specs.declared.DriverError.{DriverError}
use Rattle.wlan.specs.declared.Refusal.{Refusal}
use Rattle.definition.specs.Bus.{Bytes, log_of, Answer, answers}
use Rattle.definition.specs.Prog.{World, Prog, ret, stop}
use Rattle.definition.specs.Poll.{Result}
use Rattle.definition.specs.Calls.{Call, call, taken}
use Rattle.definition.specs.Run.{Run, run, rolled_back, End, shown, run_of, called}
use Rattle.going.specs.declared.CallEnd.{CallEnd}
use Rattle.going.specs.Onward as onward
use Rattle.going.proofs.Going.{run_ret, run-stop}
use Rattle.definition.specs.History.{Given, end_of}
use Rattle.chains.specs.Chain.{Lent, LentMut, Entry, Exit, Ran, wifi_init, wifi_scan, wifi_connect, wifi_disconnect, wifi_abort_connect, wifi_poll, send_data, get_rx_buf, gpio_set, get_mac_addr, get_ioctl, set_ioctl, write_iovar, up, after, Chain, none, more}
use Rattle.std.specs.Prelude.{Option, Some, None}
use Rattle.wlan.specs.declared.PendingBuf.{PendingBuf}

-- ---- what a function can be given

abbrev pub NoTake : Call → Type 0
NoTake (Call.wifi_init country) = Unit {0}
NoTake Call.wifi_scan = Unit {0}
NoTake (Call.wifi_connect auth ssid p) = Unit {0}
NoTake Call.wifi_disconnect = Unit {0}
NoTake Call.wifi_abort_connect = Unit {0}
NoTake Call.wifi_poll = Unit {0}
NoTake (Call.send_data i frame) = Unit {0}
NoTake (Call.get_rx_buf n) = ⊥
NoTake (Call.gpio_set pin level) = Unit {0}
NoTake Call.get_mac_addr = Unit {0}
NoTake (Call.get_ioctl cmd i) = Unit {0}
NoTake (Call.set_ioctl cmd value i) = Unit {0}
NoTake (Call.write_iovar i name bytes) = Unit {0}
NoTake Call.up = Unit {0}

abbrev pub plain : Call → List ℕ → List ℕ → Given
plain c rec log = record { call = c; recording = rec; log = log; output = [] }

abbrev pub take : Bytes → Given
take out = record { call = Call.get_rx_buf (length out); recording = []; log = []; output = out }

-- only take has an output, and neither recording nor log
pub data Callable : List Given → Type 0 where
  nothing : Callable []
  plainly : (c : Call) (rec log : List ℕ) {gs : List Given} → NoTake c → Callable gs → Callable (plain c rec log ∷ gs)
  taking : (out : Bytes) {gs : List Given} → Callable gs → Callable (take out ∷ gs)

-- ---- what it leaves, by the definition

abbrev lend : List ℕ → Lent
lend l = record { ref_ptr = (0, 0); now = l }

abbrev lend_mut : List ℕ → LentMut
lend_mut l = record { ref_ptr = (0, 0); ghost_name = 0; now = l }

abbrev entry : List ℕ → List ℕ → World → Entry
entry rec log w = record { st = w.st; list = w.list; rec = lend rec; log = lend_mut log; buf = lend_mut w.buf }

abbrev result : End → CallEnd
result e = record { outcome = e.outcome; st = e.st; list = e.list; len = e.len }

abbrev exit : Given → World → Exit
exit g w =
    let e = end_of g w in
    record { result = result e; log = lend_mut e.log; buf = lend_mut e.buf }

-- any lifetimes will do
abbrev two : Lfts 2
two = ([], ([], tt))

abbrev three : Lfts 3
three = ([], two)

abbrev four : Lfts 4
four = ([], three)

abbrev five : Lfts 5
five = ([], four)

ran : (c : Call) (rec log : List ℕ) (w : World) → NoTake c → Ran (plain c rec log) w (after (exit (plain c rec log) w))
unfolding called shown over
ran (Call.wifi_init country) rec log w n = wifi_init three country (entry rec log w) (exit (plain (Call.wifi_init country) rec log) w) refl
ran Call.wifi_scan rec log w n = wifi_scan three (entry rec log w) (exit (plain Call.wifi_scan rec log) w) refl
ran (Call.wifi_connect auth ssid p) rec log w n = wifi_connect five auth (lend ssid) (lend p) (entry rec log w) (exit (plain (Call.wifi_connect auth ssid p) rec log) w) refl
ran Call.wifi_disconnect rec log w n = wifi_disconnect three (entry rec log w) (exit (plain Call.wifi_disconnect rec log) w) refl
ran Call.wifi_abort_connect rec log w n = wifi_abort_connect three (entry rec log w) (exit (plain Call.wifi_abort_connect rec log) w) refl
ran Call.wifi_poll rec log w n = wifi_poll three (entry rec log w) (exit (plain Call.wifi_poll rec log) w) refl
ran (Call.send_data i frame) rec log w n = send_data four i (lend frame) (entry rec log w) (exit (plain (Call.send_data i frame) rec log) w) refl
ran (Call.get_rx_buf m) rec log w n = absurd n
ran (Call.gpio_set pin level) rec log w n = gpio_set three pin level (entry rec log w) (exit (plain (Call.gpio_set pin level) rec log) w) refl
ran Call.get_mac_addr rec log w n = get_mac_addr three (entry rec log w) (exit (plain Call.get_mac_addr rec log) w) refl
ran (Call.get_ioctl cmd i) rec log w n = get_ioctl three cmd i (entry rec log w) (exit (plain (Call.get_ioctl cmd i) rec log) w) refl
ran (Call.set_ioctl cmd value i) rec log w n = set_ioctl three cmd value i (entry rec log w) (exit (plain (Call.set_ioctl cmd value i) rec log) w) refl
ran (Call.write_iovar i name bytes) rec log w n = write_iovar five i (lend name) (lend bytes) (entry rec log w) (exit (plain (Call.write_iovar i name bytes) rec log) w) refl
ran Call.up rec log w n = up three (entry rec log w) (exit (plain Call.up rec log) w) refl

-- ---- take asks nothing of the bus

-- a run that is the same on every recording and log, logs nothing and keeps the work buffer
record Quiet (b : Bytes) (f : List Answer → ℕ → Run) : Type 0 where
  run : Run
  is : (l : List Answer) (room : ℕ) → f l room ≡ run
  silent : run.ops ≡ []
  kept : run.world.buf ≡ b

module _ (e : World) where
  -- a tree that has ended
  data Still : Prog Result → Type 0 where
    ended : {r : Result} {w : World} → w.buf ≡ e.buf → Still (ret r w)
    stopped : {x : DriverError} {w : World} → w.buf ≡ e.buf → Still (stop x w)

  still_pick : (b : Bool) {p q : Prog Result} → Still p → Still q → Still (pick b p q)
  still_pick true h g = h
  still_pick false h g = g

  taken-still : (n : ℕ) (x : Option PendingBuf) → Still (taken n x e)
  unfolding taken
  taken-still n None = stopped refl
  taken-still n (Some f) = still_pick (ltb n f.len) (stopped refl) (still_pick (ltb 2048 (f.offset + f.len)) (stopped refl) (ended refl))

  quiet : {p : Prog Result} → Still p → Quiet e.buf (λ l room. run e l room p)
  quiet (ended {r} {w} h) = record { run = _; is = λ l room. run_ret e l room r w; silent = refl; kept = h }
  quiet (stopped {x} {w} h) = record { run = _; is = λ l room. run-stop e l room x w; silent = refl; kept = h }

  take-quiet : (n : ℕ) (b : Bool) → Quiet e.buf (λ l room. pick b (run e l room (call (Call.get_rx_buf n) e)) (rolled_back Refusal.BufferLength e))
  unfolding call
  take-quiet n true = quiet (taken-still n e.st.pending.rx)
  take-quiet n false = record { run = _; is = λ l room. refl; silent = refl; kept = refl }

quiet-shown : (b : Bytes) (log : List ℕ) (out : Bytes) (r : Run) → r.ops ≡ [] → r.world.buf ≡ b → onward.end_of (result (shown [] out r)) log b (shown [] out r).output ≡ shown log out r
unfolding shown log_of
quiet-shown b log out r o k = rw (o, k, over-nil)

took : (out : Bytes) (w : World) → Ran (take out) w (onward.end_of (result (end_of (take out) w)) [] w.buf (end_of (take out) w).output)
unfolding called run_of
took out w =
    get_rx_buf two w.st w.list (lend w.buf) (lend_mut out) (lend_mut (end_of (take out) w).output) (result (end_of (take out) w))
    (λ rec log. rw (q.is (answers rec) (length log), q.is (answers []) 0) (quiet-shown w.buf log out q.run q.silent q.kept))
  where
    q : Quiet w.buf (λ l room. pick (eqb (length w.buf) 2048) (run w l room (call (Call.get_rx_buf (length out)) w)) (rolled_back Refusal.BufferLength w))
    q = take-quiet w (length out) (eqb (length w.buf) 2048)

-- ---- every list

pub every-run : {gs : List Given} → Callable gs → (w : World) → Chain gs w
every-run nothing w = none
every-run (plainly c rec log n h) w = more (ran c rec log w n) (every-run h _)
every-run (taking out h) w = more (took out w) (every-run h _)
