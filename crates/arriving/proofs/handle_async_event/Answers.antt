use native.Mathlib.Omega.{arith}
use Rattle.arriving.proofs.Laws.{short-event, long-event, kept_same}
use Rattle.arriving.proofs.handle_async_event.Goals as goal

pub returns-then-len-lt48 : goal.returns-then-len-lt48
returns-then-len-lt48 c = record { held = short-event _ _ _ c.requires.s_value (omega arith); kept = kept_same c.requires.kept_2 }

pub returns-then-offset-gt2000 : goal.returns-then-offset-gt2000
returns-then-offset-gt2000 c = record { held = long-event _ _ _ (omega arith) c.handle_far.ensures.held; kept = c.handle_far.ensures.kept }

pub handle_there-requires : goal.handle_there-requires
handle_there-requires c = record { s_value = c.requires.s_value; kept_2 = c.requires.kept_2; le_len = (omega arith, omega arith) }

pub returns : goal.returns
returns c = record { held = long-event _ _ _ (omega arith) c.handle_there.ensures.held; kept = c.handle_there.ensures.kept }
