use Rattle.hearing.proofs.put_count.Goals as goal

pub returns : goal.returns
returns c = rw (← c.count_bytes.ensures.0) c.put_whole.ensures
