use Rattle.std.proofs.Common.{drop, arith, length-drop, take_all}
use Rattle.session_bytes.specs.Session.{session_in}
use Rattle.session_read.proofs.list_of.Goals as goal

pub returns : goal.returns
unfolding session_in
returns c = rw (c.list_in.ensures, take_all 1352 (drop 41 c.args.bytes.now) (omega (arith, length-drop 41 c.args.bytes.now, c.told-bytes)))
