use mathlib.Core.Path.{refl}
use Rattle.fresh_session.proofs.Laws.{fresh-put, fresh-back, fresh-known}
use Rattle.fresh_session.proofs.put_fresh.Goals as goal

pub returns : goal.returns
returns c = let e = fresh-put c.args.s.now c.told-s c.fill_zero.ensures refl in record { put = e; back = rw e (fresh-known, fresh-back) }
