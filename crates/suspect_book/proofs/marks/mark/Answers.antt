use Rattle.std.proofs.Common.{ℕ, List, ◌||◌, ◌≤◌, take, length, slice_set, true, sym, ◌∙◌, subst, arith}
use Rattle.std.proofs.lemmas.List.{take_all}
use Rattle.fault_model.specs.Outcomes.{has}
use Rattle.suspect_book.specs.Marked.{Tells}
use Rattle.suspect_book.proofs.Marking.{item_among, item_taken, mark_more}
use Rattle.suspect_book.proofs.marks.mark.Goals as goal

pub place_of-requires-clause-among : goal.place_of-requires-clause-among
place_of-requires-clause-among c =
    item_among c.args.numbers.now c.args.rules.now c.loop-rule.rule-index c.rule-item.result c.requires.among c.loop-rule-test.true c.rule-item.is

pub loop-rule-preserved : goal.loop-rule-preserved
loop-rule-preserved c test told =
    let numbers = c.args.numbers.now in
    let rules = c.args.rules.now in
    let i = c.loop-rule.rule-index in
    let r = c.rule-item.result in
    let marks = c.loop-rule.marks in
    let place = c.place_of.result in
    subst (λ (l : List ℕ). Tells numbers (λ q. has l q || test q) (slice_set marks place true)) (sym (item_taken rules i r c.loop-rule-test.true c.rule-item.is))
    (mark_more numbers test (take i rules) marks place r c.requires.rises (c.loop-rule.auto.marks ∙ c.requires.room) c.place_of.ensures.inside c.place_of.ensures.found
    (c.loop-rule.invariant test told))

pub returns : goal.returns
returns c test told =
    let rules = c.args.rules.now in
    let whole : length rules ≤ c.loop-rule.rule-index = omega arith in
    subst (λ (l : List ℕ). Tells c.args.numbers.now (λ q. has l q || test q) c.loop-rule.marks) (take_all c.loop-rule.rule-index rules whole) (c.loop-rule.invariant test told)
