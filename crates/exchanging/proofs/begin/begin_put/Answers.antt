use mathlib.Core.Path.{ap, ◌∙◌}
use native.Mathlib.Omega.{arith}
use Rattle.definition.specs.Bus.{Bytes}
use Rattle.control.specs.Meaning.{laid_request}
use Rattle.effects.specs.Args.{args_of}
use Rattle.plans.specs.Plans.{put_by}
use Rattle.exchanging.proofs.Laws.{laid-first}
use Rattle.exchanging.proofs.begin.begin_put.Goals as goal

pub returns : goal.returns
returns c = λ h before c₀ e. let a = args_of c.args.j c.args.first.now c.args.second.now in let put = put_by c.args.begin c.request_at-r.result c.new_id-id.result in laid-first c.lay_by.ensures.kept (rw (c.request_len.ensures, c.new_id-id.ensures, c.request_at-r.ensures) at (c.begin_laid.ensures a h before put c₀ (c.lay_by.ensures.laid c.args.j ∙ ap (λ (x : Bytes). laid_request a put x) e)))
