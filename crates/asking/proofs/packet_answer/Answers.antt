use native.Mathlib.Omega.{arith}
use mathlib.Core.Path.{◌≡◌, refl}
use Prim.Native.Nat.{◌+◌, ◌-◌, ◌≤◌}
use lib.ListN.{length, drop}
use Rattle.slices.specs.Le.{words_for}
use Rattle.device.specs.Meaning.{landing}
use Rattle.effects.specs.Answer.{answer_in}
use Rattle.effects.proofs.Laws.{packet-bytes}
use Rattle.asking.specs.Asking as to
use Rattle.wlan.specs.declared.BusOp.{BusOp}
use Rattle.asking.proofs.Laws as law
use borrow.Author.Rules.{rules}
use Rattle.asking.proofs.packet_answer.Goals as goal
use Rattle.asking.proofs.packet_answer.Goals.{Then-begins}
use Rattle.std.specs.Prelude.{Ok}

begun : (c : Then-begins) → to.Begins c.args.rec.now c.args.pos (2 + words_for c.args.n) (0x30000000 + c.args.n)
begun c = rw (c.from.ensures, c.from-2.ensures) at (c.begins.ensures c.if-begins.true)

there : (c : Then-begins) → c.args.pos + (2 + words_for c.args.n) ≤ length c.args.rec.now
there c = (begun c).there

got : (c : Then-begins) → to.Got (Ok c.args.n) (BusOp.ReadPacket c.args.n) c.args.rec.now c.args.pos (c.args.pos + (2 + words_for c.args.n))
got c = law.packet-got c.args.rec.now c.args.pos c.args.n (2 + words_for c.args.n) (omega arith) refl (begun c)

pub overflow_add-pos : goal.overflow_add-pos
overflow_add-pos c = omega (arith, there (goal.at.overflow_add-pos c).Then-begins)

pub overflow_add-pos-then-begins : goal.overflow_add-pos-then-begins
overflow_add-pos-then-begins c = omega (arith, there (goal.at.overflow_add-pos-then-begins c).Then-begins)

pub offset_bounds-rec-pos : goal.offset_bounds-rec-pos
offset_bounds-rec-pos c = omega (arith, there (goal.at.offset_bounds-rec-pos c).Then-begins)

pub slice_bounds-read_bytes-end : goal.slice_bounds-read_bytes-end
slice_bounds-read_bytes-end c = omega (arith, there (goal.at.slice_bounds-read_bytes-end c).Then-begins)

pub overflow_add-pos-then-begins-2 : goal.overflow_add-pos-then-begins-2
overflow_add-pos-then-begins-2 c = omega (arith, there (goal.at.overflow_add-pos-then-begins-2 c).Then-begins)

pub returns-then-begins : goal.returns-then-begins
unfolding landing answer_in
returns-then-begins c =
    let a = c.args in
    let k : a.pos + (2 + words_for a.n) - (a.pos + 1) ≡ 1 + words_for a.n = omega arith in
    let l : _ ≡ landing (BusOp.ReadPacket a.n) (answer_in (Ok a.n) (drop a.pos a.rec.now)) a.buf.now = rw (c.from-then-begins-2.ensures, c.from.ensures, k, packet-bytes a.n a.rec.now a.pos (Ok a.n) a.n refl (got (goal.at.returns-then-begins c).Then-begins).taken) at c.read_bytes.ensures in
    record { heard = law.read-in (BusOp.ReadPacket a.n) a.rec.now a.pos a.len _ a.n _ a.buf.now _ (got (goal.at.returns-then-begins c).Then-begins) (rw (c.from-then-begins-3.ensures, c.from.ensures) at c.answered.ensures) l; kept = law.kept-packet a.n (Ok a.n) a.rec.now a.pos a.undo.now _ a.buf.now _ (got (goal.at.returns-then-begins c).Then-begins).taken (search rules) (search rules) l c.keep.ensures.0 (rw c.from-then-begins.ensures at c.keep.ensures.1) c.keep.ensures.2 c.keep.ensures.3 c.keep.ensures.5 }
