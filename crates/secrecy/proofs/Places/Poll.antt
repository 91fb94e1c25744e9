-- `poll`, and the turns of the loops.
use mathlib.Core.Bool.{Bool, true, false}
use lib.Dec.{ltb}
use Rattle.wlan.specs.declared.WifiState.{WifiState}
use Rattle.wlan.specs.declared.SdpcmPacket.{SdpcmPacket}
use Rattle.wlan.specs.declared.State.{State}
use Rattle.definition.specs.Bus.{Place, Op, Ans}
use Rattle.definition.specs.Prog.{Loop, raise}
use Rattle.definition.specs.Poll.{poll_turn, disconnect_timeout, failure_report, polled, poll, first, body}
use Rattle.secrecy.proofs.Places.Tree.{PlaceIs, w-ret, w-loop, Does, w-bind, w-raise, w-pick, w-valued, w-operate}
use Rattle.secrecy.proofs.Places.Device.{poll_by-w, poll_first-w}
use Rattle.secrecy.proofs.Places.Exchange.{stall_turn-w, in_time-w}
use Rattle.std.specs.Prelude.{Option, Some, None, ℕ}
use Rattle.wlan.specs.declared.WifiConnectFailure.{WifiConnectFailure}

module _ (Q : Place → Type 0) where
  poll_turn-w : (p : SdpcmPacket) → Does Q (poll_turn p)
  unfolding poll_turn
  poll_turn-w SdpcmPacket.None w = w-ret
  poll_turn-w (SdpcmPacket.Control o l s) w = w-ret
  poll_turn-w (SdpcmPacket.AsyncEvent o l) w = w-ret
  poll_turn-w (SdpcmPacket.Data o l i) w = w-pick Q (ltb l 14) w-ret w-ret

  disconnect_timeout-w : (s : WifiState) (t : Option ℕ) → Does Q (disconnect_timeout s t)
  unfolding disconnect_timeout
  disconnect_timeout-w WifiState.Down t w = w-ret
  disconnect_timeout-w WifiState.Connecting t w = w-ret
  disconnect_timeout-w WifiState.Connected t w = w-ret
  disconnect_timeout-w WifiState.Disconnecting None w = w-ret
  disconnect_timeout-w WifiState.Disconnecting (Some t) w = w-bind Q _ (w-operate Q Op.read_tick tt w) (λ m v. w-ret)

  failure_report-w : (s : WifiState) (f : Option WifiConnectFailure) → Does Q (failure_report s f)
  unfolding failure_report
  failure_report-w WifiState.Down None w = w-ret
  failure_report-w WifiState.Down (Some f) w = w-ret
  failure_report-w WifiState.Connecting f w = w-ret
  failure_report-w WifiState.Connected f w = w-ret
  failure_report-w WifiState.Disconnecting f w = w-ret

  polled-w : (b : Bool) → Does Q (polled b)
  unfolding polled
  polled-w true w = w-ret
  polled-w false w = w-bind Q _ (disconnect_timeout-w _ _ w) (λ u v. failure_report-w _ _ v)

  pub poll-w : Does Q poll
  unfolding poll
  poll-w w = w-bind Q polled (w-loop {l = Loop.poll_loop} {w = w} {k = raise} (λ r v. w-raise Q r v)) polled-w

  pub body-w : (l : Loop) (x : Ans) → Does Q (body l x)
  unfolding body
  body-w (Loop.stall_loop t0) x w = w-bind Q _ (poll_by-w Q x w) (stall_turn-w Q t0)
  body-w (Loop.reply_loop t0) x w = w-bind Q _ (w-valued Q x w) (in_time-w Q t0)
  body-w Loop.poll_loop x w = w-bind Q _ (poll_by-w Q x w) poll_turn-w

  pub first-w : (l : Loop) (s : State) → PlaceIs Q (first l s)
  first-w (Loop.stall_loop t0) s = poll_first-w Q s
  first-w (Loop.reply_loop t0) s = tt
  first-w Loop.poll_loop s = poll_first-w Q s
