use mathlib.Core.Path.{refl, sym, ap}
use mathlib.Core.Bool.{false}
use mathlib.Core.List.{[]}
use lib.ListN.{drop}
use Rattle.definition.specs.Event.{event_of}
use Rattle.handling.specs.Handle.{list_heard}
use Rattle.control.specs.declared.Before.{Before}
use Rattle.control.specs.declared.CallStep.{CallStep}
use Rattle.control.specs.Meaning.{lens_of, laid_before, call_shown}
use Rattle.effects.specs.Args.{args_of}
use Rattle.session_bytes.specs.Session.{session_in}
use Rattle.going.specs.Onward.{go}
use Rattle.turning.specs.Turning.{world_in}
use Rattle.exchange_call.proofs.exchange_run.Goals as goal

pub call_run-requires : goal.call_run-requires
call_run-requires c = record { s_value = c.requires.s_value; kept_2 = c.requires.kept_2; second_len_bound = c.requires.second_len_bound; l_value = c.lens-l.ensures c.args.j }

pub returns : goal.returns
unfolding laid_before list_heard
returns c = let a = args_of c.args.j c.args.first.now c.args.second.now in record { on = λ e. c.call_run.ensures.on e _ (record { heard = false; before = Before.None; event = event_of [] 0; under = c.args.buf.now; list = (session_in c.args.s.now).list; laid = refl; listed = refl; on = ap (λ (z : CallStep). go e (drop 0 c.args.rec.now) c.args.log.now 0 (call_shown a z (event_of [] 0) (world_in c.args.s.now c.args.buf.now))) (sym (c.begins.ensures c.args.j (lens_of a) (session_in c.args.s.now).st false Before.None)) }); held = c.call_run.ensures.held; kept = c.call_run.ensures.kept }
