use Rattle.std.proofs.Common.{◌≡◌, ◌+◌, ◌*◌, length, take, drop, sym, ap, ◌∙◌, arith, rules, tests}
use lib.ListN.{length-take}
use lib.Seq.{get_or-take}
use native.Mathlib.Nat.{zero-add}
use Rattle.std.proofs.lemmas.Iterator.{YieldsList-from_range}
use Rattle.std.proofs.lemmas.Iterator.Search.{any_from_yields_List}
use Rattle.definition.specs.Scan.{same_network}
use Rattle.definition.specs.Event.{scan_result_of}
use Rattle.session_bytes.specs.ListBytes.{record_of}
use Rattle.session_bytes.specs.Session.{session_in}
use Rattle.hearing.proofs.Laws.{record-here, length-here}
use Rattle.hearing.proofs.Brought.{searched}
use Rattle.hearing.proofs.result.knows_result.Goals as goal

pub returns : goal.returns
returns c =
    let b = c.args.s.now in
    let r = scan_result_of c.args.e.now in
    let n = c.args.n in
    let l = take n (session_in b).list.records in
    let size : length l ≡ c.min.result = omega (arith, length-take n (session_in b).list.records, length-here b, c.min.ensures) in
    any_from_yields_List (λ i. same_network (record_of (drop (49 + 42 * i) b)) r) _ _ _ c.any.ensures.ran (YieldsList-from_range 0 c.min.result (length l) (cc) (omega arith)) (λ i t q k. search (rules, tests))
    ∙ searched l r (λ i. same_network (record_of (drop (49 + 42 * i) b)) r) 0 (λ i h. rw zero-add (ap (λ x. same_network x r) (record-here b i r (omega (arith, length-take n (session_in b).list.records, length-here b)) ∙ sym (get_or-take n (session_in b).list.records i r (omega (arith, length-take n (session_in b).list.records))))))
