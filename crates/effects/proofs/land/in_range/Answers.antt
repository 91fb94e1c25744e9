use mathlib.Core.List.{[]}
use native.Mathlib.Omega.{arith}
use Rattle.bus.specs.Op.{op_of}
use Rattle.effects.proofs.Laws as law
use Rattle.effects.proofs.land.in_range.Goals as goal

pub overflow_add-pos : goal.overflow_add-pos
overflow_add-pos c = omega (arith, law.got-inside (op_of c.args.op []) c.args.rec.now c.args.pos c.args.x c.requires.x_value)

pub returns : goal.returns
returns c = law.in-range c.args.op c.args.x c.args.rec.now c.args.pos c.requires.op_value (omega (arith, c.word_at-word.ensures)) c.requires.x_value
