use mathlib.Core.Path.{◌≡◌}
use Prim.Native.Nat.{◌+◌, ◌-◌, ◌≤◌}
use native.Mathlib.Omega.{arith}
use lib.ListN.{length}
use Rattle.slices.specs.Le.{words_for}
use Rattle.device.specs.Meaning.{landing}
use Rattle.effects.specs.Answer.{answer_in}
use Rattle.effects.proofs.Laws as law
use Rattle.effects.proofs.land.land_packet.Goals as goal
use Rattle.effects.proofs.land.land_packet.Goals.{In-Ok}

-- the packet's words are recorded
fits : (c : In-Ok) → c.args.pos + (2 + words_for c.args.n) ≤ length c.args.rec.now
fits c = law.packet-fits c.args.n c.args.rec.now c.args.pos c.args.x _ c.in-Ok.is c.requires

pub overflow_add-pos : goal.overflow_add-pos
overflow_add-pos c = omega (arith, fits (goal.at.overflow_add-pos c).In-Ok)

pub overflow_add-pos-in-Ok : goal.overflow_add-pos-in-Ok
overflow_add-pos-in-Ok c = omega (arith, fits (goal.at.overflow_add-pos-in-Ok c).In-Ok)

pub overflow_add-pos-in-Ok-2 : goal.overflow_add-pos-in-Ok-2
overflow_add-pos-in-Ok-2 c = omega (arith, fits (goal.at.overflow_add-pos-in-Ok-2 c).In-Ok)

pub offset_bounds-rec-pos : goal.offset_bounds-rec-pos
offset_bounds-rec-pos c = omega (arith, fits (goal.at.offset_bounds-rec-pos c).In-Ok)

pub slice_bounds-read_bytes-end : goal.slice_bounds-read_bytes-end
slice_bounds-read_bytes-end c = omega (arith, fits (goal.at.slice_bounds-read_bytes-end c).In-Ok)

pub returns-in-Err : goal.returns-in-Err
unfolding landing answer_in
returns-in-Err c = simp c.in-Err.is c.faulted_read.ensures

pub returns-in-Ok : goal.returns-in-Ok
unfolding landing answer_in
returns-in-Ok c =
    let a = c.args in
    let k : a.pos + 1 + (1 + words_for a.n) - (a.pos + 1) ≡ 1 + words_for a.n = omega arith in
    simp c.in-Ok.is (rw (k, law.packet-bytes a.n a.rec.now a.pos a.x _ c.in-Ok.is c.requires) at c.read_bytes.ensures)
