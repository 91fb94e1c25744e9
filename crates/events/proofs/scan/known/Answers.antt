use Rattle.std.proofs.Common.{◌∙◌, sym, rules, tests}
use Rattle.std.proofs.lemmas.Iterator.{YieldsList-from_slice, YieldsList-from_take}
use Rattle.std.proofs.lemmas.Iterator.Search.{any_from_yields_List}
use Rattle.definition.specs.Scan.{same_network}
use Rattle.events.proofs.Laws.{known-is}
use Rattle.events.proofs.scan.known.Goals as goal

pub returns : goal.returns
returns c =
    let a = c.args in
    any_from_yields_List (λ s. same_network s a.r) _ _ _ c.any.ensures.ran (YieldsList-from_take a.n (YieldsList-from_slice a.records cc) cc) (λ x b q k. search (rules, tests)) ∙ sym (known-is _ a.r)
