use mir.Facts.{to_z-of_z}
use Rattle.state_bytes.proofs.Laws.{is-unsigned32, signed32-back}
use Rattle.state_bytes.proofs.numbers.unsigned32.Goals as goal

pub returns : goal.returns
returns c =
    let f = c.ranges.x in
    rw (c.cast_unsigned.ensures, to_z-of_z f) (is-unsigned32 c.args.x f, signed32-back c.args.x f)
