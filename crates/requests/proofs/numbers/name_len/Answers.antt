use borrow.Author.Rules.{rules}
use Rattle.requests.proofs.Number.{name-length, name_short}
use Rattle.requests.proofs.numbers.name_len.Goals as goal

pub returns : goal.returns
returns c =
    let e = name-length c.args.v in
    rw (c.name.ensures, e) (search (rules, name_short))
