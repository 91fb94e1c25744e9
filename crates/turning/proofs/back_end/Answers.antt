use Rattle.turning.proofs.Laws.{backed}
use Rattle.turning.proofs.back_end.Goals as goal

pub returns : goal.returns
returns c = λ e on log b buf h. rw (c.back_kind.ensures, c.no_failure.ensures) (backed e on c.args.a.back log b buf c.args.a.len h)
