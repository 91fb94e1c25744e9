use mathlib.Core.Path.{◌∙◌}
use Rattle.requests.specs.Request.{request_of}
use Rattle.control.specs.Meaning.{laid_request}
use Rattle.laying.proofs.Laws.{whole-laid}
use Rattle.laying.proofs.lay_whole.Goals as goal

pub returns : goal.returns
unfolding laid_request
returns c = record { laid = λ j. c.put_ioctl_header.ensures ∙ rw c.lay_request.ensures; kept = rw (c.put_ioctl_header.ensures, c.lay_request.ensures) (whole-laid (request_of c.args.r c.args.first.now c.args.second.now) c.args.id c.keep_request.ensures c.told-buf) }
