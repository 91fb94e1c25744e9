use Rattle.session_write.proofs.Laws.{zeroed-put, state-put}
use Rattle.session_write.proofs.put_session.Goals as goal

pub put_state_in-requires : goal.put_state_in-requires
put_state_in-requires c = (zeroed-put c.args.out.now c.args.s.list c.told-out c.put_list.ensures.back.0 c.put_list.ensures.back.1 c.copy_over.ensures c.put_list.ensures.put).known

pub returns : goal.returns
returns c = let whole = state-put c.args.s (zeroed-put c.args.out.now c.args.s.list c.told-out c.put_list.ensures.back.0 c.put_list.ensures.back.1 c.copy_over.ensures c.put_list.ensures.put) (c.put_state_in.ensures.put, c.put_state_in.ensures.back) in record { put = whole.0; back = whole.1 }
