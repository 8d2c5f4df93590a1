use Rattle.std.proofs.Common.{ℕ, List, take, ◌+◌, sym, ◌∙◌, subst}
use Rattle.std.specs.List.{filter}
use Rattle.rule_cover.proofs.Kept.{kept_push, left_out_push}
use Rattle.suspect_book.specs.Fewness.{IsFew}
use Rattle.suspect_book.proofs.Marking.{item_among, item_taken}
use Rattle.suspect_book.proofs.marks.few_left.Goals as goal
use Rattle.suspect_book.proofs.marks.few_left.Goals.{then-is_left, else-is_left}

pub is_left-requires-clause-among : goal.is_left-requires-clause-among
is_left-requires-clause-among c =
    item_among c.args.numbers.now c.args.rules.now c.loop-rule.rule-index c.rule-item.result c.requires.among c.loop-rule-test.true c.rule-item.is

pub loop-rule-preserved : goal.loop-rule-preserved
loop-rule-preserved c test told =
    let rules = c.args.rules.now in
    let i = c.loop-rule.rule-index in
    let r = c.rule-item.result in
    let more = item_taken rules i r c.loop-rule-test.true c.rule-item.is in
    elim c.if-is_left.branch [
      | then-is_left w ↦
          rw w.few-is (subst (λ (l : List ℕ). IsFew l w.with-few.result)
          (sym (kept_push test (take (i + 1) rules) (take i rules) r more (sym (c.is_left.ensures test told) ∙ w.if-is_left.true)))
          (w.with-few.ensures (filter test (take i rules)) (c.loop-rule.invariant test told)))
      | else-is_left w ↦
          rw w.few-is (subst (λ (l : List ℕ). IsFew l c.loop-rule.few)
          (sym (left_out_push test (take (i + 1) rules) (take i rules) r more (sym (c.is_left.ensures test told) ∙ w.if-is_left.false)))
          (c.loop-rule.invariant test told))
    ]
