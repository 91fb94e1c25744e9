use mathlib.Core.Path.{refl}
use mathlib.Core.List.{[]}
use Rattle.lent_calls.specs.Lent.{call_of, has_output}
use Rattle.lent_calls.proofs.Plain.{plainly, takes}
use Rattle.lent_calls.proofs.by_value.Goals as goal

pub returns-in-Exchanges : goal.returns-in-Exchanges
unfolding has_output call_of
returns-in-Exchanges c = plainly _ _ _ c.args.a.now c.args.b.now _ _ _ _ _ [] _ _ c.in-Exchanges.is refl refl c.exchanges.ensures

pub returns-in-Poll : goal.returns-in-Poll
unfolding has_output call_of
returns-in-Poll c = plainly _ _ _ c.args.a.now c.args.b.now _ _ _ _ _ [] _ _ c.in-Poll.is refl refl c.poll.ensures

pub returns-in-SendData : goal.returns-in-SendData
unfolding has_output call_of
returns-in-SendData c = plainly _ _ _ c.args.a.now c.args.b.now _ _ _ _ _ [] _ _ c.in-SendData.is refl refl c.send.ensures

pub returns-in-GetRxBuf : goal.returns-in-GetRxBuf
returns-in-GetRxBuf c = takes _ _ _ c.args.a.now c.args.b.now _ _ _ _ _ _ c.in-GetRxBuf.is (rw c.with_list.ensures (c.take.ensures _ _ c.args.list))
