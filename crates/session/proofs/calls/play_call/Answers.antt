use Rattle.turning.specs.Turning.{world_in}
use Rattle.session.proofs.Plays.{ran, took, refused}
use Rattle.session.proofs.calls.play_call.Goals as goal

pub run_exchanges-requires : goal.run_exchanges-requires
run_exchanges-requires c = record { s_value = c.requires.s_value }

pub run_send-requires : goal.run_send-requires
run_send-requires c = record { s_value = c.requires.s_value }

pub returns-in-Some-Exchanges : goal.returns-in-Some-Exchanges
returns-in-Some-Exchanges c = ran _ c.args.rec.now c.args.log.now c.args.s.now c.args.buf.now (rw c.in-Some-Exchanges.field-0-is at c.in-Some-Exchanges.ensures).reads.0 (rw c.in-Some-Exchanges.field-0-is at c.in-Some-Exchanges.ensures).reads.1 c.requires.out_value c.run_exchanges.ensures

pub returns-in-Some-Poll : goal.returns-in-Some-Poll
returns-in-Some-Poll c = ran _ c.args.rec.now c.args.log.now c.args.s.now c.args.buf.now (rw c.in-Some-Poll.field-0-is at c.in-Some-Poll.ensures).reads.0 (rw c.in-Some-Poll.field-0-is at c.in-Some-Poll.ensures).reads.1 c.requires.out_value c.run_poll.ensures

pub returns-in-Some-Send : goal.returns-in-Some-Send
returns-in-Some-Send c = ran _ c.args.rec.now c.args.log.now c.args.s.now c.args.buf.now (rw c.in-Some-Send.field-0-is at c.in-Some-Send.ensures).reads.0 (rw c.in-Some-Send.field-0-is at c.in-Some-Send.ensures).reads.1 c.requires.out_value c.run_send.ensures

pub returns-in-Some-Take : goal.returns-in-Some-Take
returns-in-Some-Take c = took _ (world_in c.args.s.now c.args.buf.now) c.args.rec.now c.args.log.now c.args.out.now (rw c.in-Some-Take.field-0-is at c.in-Some-Take.ensures).reads.0 (rw c.in-Some-Take.field-0-is at c.in-Some-Take.ensures).reads.1 c.requires.out_value (c.run_take.ensures c.args.rec.now c.args.log.now)

pub returns-in-None : goal.returns-in-None
returns-in-None c = refused c.args.rec.now c.args.log.now c.args.s.now c.args.buf.now c.args.out.now c.in-None.ensures.reads.0 c.requires.s_value c.error_end.ensures.0
