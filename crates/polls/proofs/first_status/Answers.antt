use mathlib.Core.Path.{sym, ◌∙◌}
use Prim.Native.Nat.{◌%◌}
use lib.Bits.{bit_and}
use lib.Dec.{eqb}
use borrow.Author.Tests.{not-true, not-false}
use Rattle.poll_points.specs.PollPoints.{point_by}
use Rattle.wlan.specs.declared.State.{State}
use Rattle.control.specs.Poll.{nothing_step}
use Rattle.poll_report.proofs.Laws.{quiet-moved}
use Rattle.poll_now.proofs.Laws.{asked}
use Rattle.polls.proofs.Laws.{status-waits, status-unreadable, status-packet, status-none}
use Rattle.polls.proofs.first_status.Goals as goal

pub returns-then-w : goal.returns-then-w
unfolding point_by
returns-then-w c = λ a. status-waits c.args.s.now c.args.v a c.asks.result c.requires c.if-w.true (asked c.asks.result c.asks.ensures.0 c.asks.ensures.1)

pub returns-then-unreadable : goal.returns-then-unreadable
unfolding point_by
returns-then-unreadable c = λ a. status-unreadable c.args.s.now c.args.v a c.if-w.false c.asks-then-unreadable.result c.requires (not-true (eqb (bit_and (c.args.v % 4294967296) 0x100) 0) (sym c.has_packet.ensures ∙ c.if-has_packet.true)) (sym c.unreadable.ensures ∙ c.if-unreadable.true) (asked c.asks-then-unreadable.result c.asks-then-unreadable.ensures.0 c.asks-then-unreadable.ensures.1)

pub returns-then-has_packet : goal.returns-then-has_packet
unfolding point_by
returns-then-has_packet c = λ a. status-packet c.args.s.now c.args.v a c.if-w.false c.asks-then-has_packet.result c.requires (not-true (eqb (bit_and (c.args.v % 4294967296) 0x100) 0) (sym c.has_packet.ensures ∙ c.if-has_packet.true)) (sym c.unreadable.ensures ∙ c.if-unreadable.false) (rw c.pending.ensures at (asked c.asks-then-has_packet.result c.asks-then-has_packet.ensures.0 c.asks-then-has_packet.ensures.1))

pub returns : goal.returns
returns c = λ a. status-none c.args.s.now c.args.v a c.if-w.false c.nothing.result (not-false (eqb (bit_and (c.args.v % 4294967296) 0x100) 0) (sym c.has_packet.ensures ∙ c.if-has_packet.false)) (quiet-moved (λ (s : State). nothing_step s) (rw (c.set_mark.ensures, c.sdpcm_at.ensures) at c.put_sdpcm.ensures) c.nothing.ensures)
