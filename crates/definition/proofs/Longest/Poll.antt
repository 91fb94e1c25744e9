-- Poll pays for each operation with the words of the answer before it.
use mathlib.Core.Bool.{Bool, true, false}
use Prim.Native.Nat.{◌+◌, ◌-◌, ◌≤◌}
use native.Mathlib.Omega.{arith}
use lib.Dec.{ltb}
use Rattle.slices.specs.Pick.{pick}
use Rattle.slices.proofs.Pick.{by-pick}
use Rattle.wlan.specs.declared.WifiState.{WifiState}
use Rattle.wlan.specs.declared.SdpcmPacket.{SdpcmPacket}
use Rattle.definition.specs.Bus.{Op, words_of, Ans}
use Rattle.definition.specs.Prog.{World, Fin, fine, failed, poll_loop, bind, raise, valued, operate}
use Rattle.definition.specs.Device.{had_packet, status_read, status_reads, interrupt_read, poll_by}
use Rattle.definition.specs.Poll.{poll_turn, disconnect_timeout, failure_report, polled, poll, first, body}
use Rattle.definition.specs.Run.{words}
use Rattle.definition.specs.Longest.{most}
use Rattle.definition.proofs.Longest.Most.{most-between}
use Rattle.definition.proofs.Longest.Pays.{paid, after_loop, Pays, p-weaken, p-bind, p-valued}
use Rattle.definition.proofs.Longest.Runs.{Done, TurnQ, Turns}
use Rattle.definition.proofs.Longest.Status.{PacketQ, status_left, status_read-pays}
use Rattle.definition.proofs.Longest.Interrupt.{interrupt_read-pays, status_reads-pays}
use Rattle.std.specs.Prelude.{Option, Some, None, ℕ}
use Rattle.wlan.specs.declared.WifiConnectFailure.{WifiConnectFailure}

-- ---- a poll of the device

poll_by-pays : (x : Ans) (w : World) → Pays PacketQ (paid (first poll_loop w.st) x most) (poll_by x w)
unfolding poll_by words_of
poll_by-pays x w = go (had_packet w.st)
  where
    go : (b : Bool) → Pays PacketQ (paid (pick b Op.read_status Op.read_interrupt) x most) (pick b (bind (valued x w) (status_read (status_reads 999))) (bind (valued x w) interrupt_read))
    go true =
        p-valued PacketQ Op.read_status most _ w
        (λ v. p-weaken PacketQ status_left _ (status_read (status_reads 999) v w) (λ n. omega (arith, (most-between (n + 2)).above)) (status_read-pays (status_reads 999) (status_reads-pays 999) v w)) x
    go false = p-valued PacketQ Op.read_interrupt most _ w (λ v. interrupt_read-pays v w) x

-- ---- the loop

poll_turn-pays : (p : SdpcmPacket) (w : World) → Pays TurnQ (PacketQ p) (poll_turn p w)
unfolding poll_turn
poll_turn-pays SdpcmPacket.None w = λ n. omega arith
poll_turn-pays (SdpcmPacket.Control o l s) w = λ n. omega arith
poll_turn-pays (SdpcmPacket.AsyncEvent o l) w = λ n. omega arith
poll_turn-pays (SdpcmPacket.Data o l i) w = by-pick (Pays TurnQ most) (ltb l 14) (λ e n. omega arith) (λ e n. omega (arith, (most-between n).above))

pub turns : Turns
unfolding body words_of
turns =
    record {
      opens = λ w n. by-pick (λ (q : Op). words q ≤ most n) (had_packet w.st) (λ e. omega (arith, (most-between n).above)) (λ e. omega (arith, (most-between n).above));
      goes = λ x w. p-bind PacketQ TurnQ _ poll_turn poll_turn-pays (poll_by x w) (poll_by-pays x w);
    }

-- ---- after it: at most the tick

timeout-pays : (s : WifiState) (t : Option ℕ) (w : World) → Pays (λ (u : Unit {0}) n. 0) (λ n. 1) (disconnect_timeout s t w)
unfolding disconnect_timeout operate bind words_of
timeout-pays WifiState.Down t w = λ n. omega arith
timeout-pays WifiState.Connecting t w = λ n. omega arith
timeout-pays WifiState.Connected t w = λ n. omega arith
timeout-pays WifiState.Disconnecting None w = λ n. omega arith
timeout-pays WifiState.Disconnecting (Some t) w = (λ n. omega arith, p-valued _ Op.read_tick (λ n. 1) _ w (λ v n. omega arith))

report-pays : (s : WifiState) (f : Option WifiConnectFailure) (w : World) → Pays Done (λ n. 0) (failure_report s f w)
unfolding failure_report
report-pays WifiState.Down None w = λ n. omega arith
report-pays WifiState.Down (Some f) w = λ n. omega arith
report-pays WifiState.Connecting f w = λ n. omega arith
report-pays WifiState.Connected f w = λ n. omega arith
report-pays WifiState.Disconnecting f w = λ n. omega arith

polled-pays : (b : Bool) (w : World) → Pays Done (λ n. 1) (polled b w)
unfolding polled
polled-pays true w = λ n. omega arith
polled-pays false w =
    p-bind (λ u n. 0) Done (λ n. 1) _ (λ u v. report-pays v.st.link.state v.st.link.connect_failure v) _ (timeout-pays w.st.link.state w.st.link.disconnect_started_tick w)

pub poll-pays : (w : World) → Pays Done most (poll w)
unfolding poll bind raise
poll-pays w = (tt, (λ n. omega arith, by))
  where
    by : (r : Fin Bool) (v : World) → Pays Done (after_loop r) (bind (raise r v) polled)
    by (fine b) v = polled-pays b v
    by (failed e) v = tt
