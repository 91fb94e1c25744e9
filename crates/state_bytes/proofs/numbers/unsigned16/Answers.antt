use mir.Facts.{to_z-of_z}
use Rattle.state_bytes.proofs.Laws.{is-unsigned16, signed16-back}
use Rattle.state_bytes.proofs.numbers.unsigned16.Goals as goal

pub returns : goal.returns
returns c =
    let f = c.ranges.x in
    rw (c.cast_unsigned.ensures, to_z-of_z f) (is-unsigned16 c.args.x f, signed16-back c.args.x f)
