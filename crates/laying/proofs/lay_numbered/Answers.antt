use Rattle.requests.specs.Request.{request_of}
use Rattle.control.specs.Meaning.{laid_request}
use Rattle.laying.proofs.Laws.{header-laid}
use Rattle.laying.proofs.lay_numbered.Goals as goal

pub returns : goal.returns
unfolding laid_request
returns c = record { laid = λ j. c.put_ioctl_header.ensures; kept = rw c.put_ioctl_header.ensures (header-laid (request_of c.args.r c.args.first.now c.args.second.now) c.args.id (record { kept = c.keep.ensures.0; to = c.keep.ensures.1; session = c.keep.ensures.2; buf = c.keep.ensures.3 }) c.told-buf) }
