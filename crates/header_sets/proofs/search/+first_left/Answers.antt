use Rattle.header_sets.proofs.Searching.{near_found, far_result, none_result}
use Rattle.header_sets.proofs.search.+first_left.Goals as goal

pub returns-in-Some-clause-found : goal.returns-in-Some-clause-found
returns-in-Some-clause-found t c =
    near_found c.args.ones_first c.args.pattern.now c.args.others.now c.in-Asked.place c.in-Asked.ensures c.in-Some.found
    (rw c.with_letter-half.ensures at c.in-Some.ensures.found)

pub returns-in_default-clause-found : goal.returns-in_default-clause-found
returns-in_default-clause-found t c =
    far_result c.args.ones_first c.args.pattern.now c.args.others.now c.in-Asked.place c.in-Asked.ensures
    (rw c.with_letter-half.ensures at c.in_default.ensures.none)
    c.first_left-in-Asked-2.result (rw c.with_letter.ensures at c.first_left-in-Asked-2.ensures.found)

pub returns-in_default-clause-none : goal.returns-in_default-clause-none
returns-in_default-clause-none t c =
    none_result c.args.ones_first c.args.pattern.now c.args.others.now c.in-Asked.place c.in-Asked.ensures
    (rw c.with_letter-half.ensures at c.in_default.ensures.none)
    c.first_left-in-Asked-2.result (rw c.with_letter.ensures at c.first_left-in-Asked-2.ensures.none)
