use Rattle.state_bytes.proofs.Laws.{reply-back}
use mathlib.Core.Path.{refl}
use Rattle.state_bytes.specs.Parts.{reply_parts, reply_of}
use Rattle.state_bytes.proofs.parts.reply_parts.Goals as goal

pub returns-in-None : goal.returns-in-None
unfolding reply_parts reply_of
returns-in-None c = simp c.in-None.is (refl, refl)

pub returns-in-Some : goal.returns-in-Some
unfolding reply_parts reply_of
returns-in-Some c = simp c.in-Some.is (c.waiting_reply.ensures.0, reply-back c.waiting_reply.ensures.0 c.waiting_reply.ensures.1)
