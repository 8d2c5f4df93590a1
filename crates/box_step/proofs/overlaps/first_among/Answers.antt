use Rattle.std.proofs.Common.{◌≡◌, ◌+◌, ◌∙◌, ◌++◌, ◌∷◌, [], List, take, sym, ap, subst}
use Rattle.std.proofs.lemmas.List.{take_all, take_more}
use Rattle.net_types.specs.declared.rule.Rule.{Rule}
use Rattle.box_step.specs.Overlaps.{AreFirst}
use Rattle.box_step.proofs.Listing.{first_none, first_yes, first_no}
use Rattle.box_step.proofs.overlaps.first_among.Goals as goal
use Rattle.box_step.proofs.overlaps.first_among.Goals.{then-is_first+in_ok-push, else-is_first}

pub loop-other-init : goal.loop-other-init
loop-other-init c = first_none c.args.rule.now c.new-numbers.result.items c.new-numbers.ensures.items

pub loop-other-preserved : goal.loop-other-preserved
loop-other-preserved c =
    let i = c.loop-other.other-index in
    let rules : List Rule = c.args.rules.now in
    let own : Rule = c.other-item.result in
    let seen : take (i + 1) rules ≡ take i rules ++ own ∷ [] = take_more rules i own c.loop-other-test.true ∙ ap (λ (r : Rule). take i rules ++ r ∷ []) (sym c.other-item.is) in
    elim c.if-is_first.branch [
      | then-is_first+in_ok-push w ↦
          rw (w.numbers-is, w.in_ok-push.ensures.items, seen, w.get.ensures)
          (first_yes (take i rules) own c.args.rule.now c.loop-other.numbers.items c.loop-other.invariant (sym c.is_first.ensures ∙ w.if-is_first.true))
      | else-is_first w ↦
          rw (w.numbers-is, seen)
          (first_no (take i rules) own c.args.rule.now c.loop-other.numbers.items c.loop-other.invariant (sym c.is_first.ensures ∙ w.if-is_first.false))
    ]

pub returns : goal.returns
returns c =
    subst (λ (rs : List Rule). AreFirst rs c.args.rule.now c.loop-other.numbers.items) (take_all c.loop-other.other-index c.args.rules.now c.loop-other-test.false) c.loop-other.invariant
