use Prim.Native.Nat.{ℕ}
use mathlib.Core.Path.{◌≡◌, refl}
use mathlib.Core.List.{List, [], ◌∷◌}
use types.Run.{OneOf, miss}
use denote.Enum.Declared.{tag_of}
use Rattle.wlan.specs.declared.BusOp.{BusOp}
use Rattle.send.specs.Send.{send_op, stall_op}
use Rattle.poll_points.specs.declared.PollAt.{PollAt}
use Rattle.send_points.specs.declared.SendKind.{SendKind}
use Rattle.send_points.specs.SendPoints.{point_by}
use Rattle.send_points.specs.contracts.SendKind.{the_type}
use Rattle.turning.proofs.Laws.{still_kept}
use Rattle.send_call.proofs.asks.send_ask.Goals as goal

abbrev keys-clock : List ℕ
keys-clock = 0 ∷ 2 ∷ []

clock : (k : SendKind) (q : PollAt) (t0 left n : ℕ) → OneOf keys-clock (tag_of the_type k) → BusOp.ReadClock ≡ send_op (point_by k q t0 left n)
unfolding send_op stall_op point_by
clock SendKind.First q t0 left n h = refl
clock SendKind.Polling q t0 left n h = absurd (miss keys-clock 1 tt h)
clock SendKind.Late q t0 left n h = refl
clock SendKind.Waited q t0 left n h = absurd (miss keys-clock 3 tt h)
clock SendKind.Ready q t0 left n h = absurd (miss keys-clock 4 tt h)
clock SendKind.Writing q t0 left n h = absurd (miss keys-clock 5 tt h)

pub returns-in-First-clause-asks : goal.returns-in-First-clause-asks
returns-in-First-clause-asks c = rw (← clock c.args.p.kind c.args.p.at c.args.p.t0 c.args.p.left c.args.p.n c.in-First.in-First-own.keys1) (c.ask_clock.ensures c.args.buf.now)

pub returns-in-Polling-clause-asks : goal.returns-in-Polling-clause-asks
unfolding send_op stall_op point_by
returns-in-Polling-clause-asks c = simp c.in-Polling.is c.device_ask.ensures.asks

pub returns-in-Waited-clause-asks : goal.returns-in-Waited-clause-asks
unfolding send_op stall_op point_by
returns-in-Waited-clause-asks c = simp c.in-Waited.is (c.ask_wait.ensures c.args.rec.now c.args.buf.now)

pub returns-in-Ready-clause-asks : goal.returns-in-Ready-clause-asks
unfolding send_op stall_op point_by
returns-in-Ready-clause-asks c = simp c.in-Ready.is (c.ask_status.ensures c.args.buf.now)

pub returns-in-Writing-clause-asks : goal.returns-in-Writing-clause-asks
unfolding send_op stall_op point_by
returns-in-Writing-clause-asks c = simp c.in-Writing.is c.ask_write.ensures
