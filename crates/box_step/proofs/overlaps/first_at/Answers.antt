use Rattle.std.proofs.Common.{◌≡◌, ◌+◌, ◌∙◌, ◌++◌, ◌∷◌, [], ℕ, List, Some, None, get_or, take, sym, ap, subst}
use Rattle.std.specs.Prelude.{slice_get}
use Rattle.std.specs.Option.{option_copied}
use Rattle.std.proofs.lemmas.List.{take_all, take_more}
use Rattle.net_types.specs.declared.rule.Rule.{Rule}
use Rattle.box_step.specs.Overlaps.{AreFirstAt}
use Rattle.box_step.proofs.Listing.{at_none, at_yes, at_no, at_past}
use Rattle.box_step.proofs.overlaps.first_at.Goals as goal
use Rattle.box_step.proofs.overlaps.first_at.Goals.{in-Some+then-is_first+in_ok-push, in-Some+else-is_first, in_default}

pub loop-place-init : goal.loop-place-init
loop-place-init c = at_none c.args.rules.now c.args.rule.now c.new-numbers.result.items c.new-numbers.ensures.items

pub loop-place-preserved : goal.loop-place-preserved
loop-place-preserved c =
    let i = c.loop-place.place-index in
    let places : List ℕ = c.args.places.now in
    let p = get_or places i 0 in
    let seen : take (i + 1) places ≡ take i places ++ p ∷ [] = take_more places i 0 c.loop-place-test.true in
    let numbers = c.loop-place.numbers.items in
    elim c.match-rule_in.branch [
      | in-Some+then-is_first+in_ok-push w ↦
          let own : Rule = w.in-Some.other.now in
          let is : slice_get c.args.rules.now p ≡ Some own = sym c.rule_in.ensures ∙ ap (λ o. option_copied o) w.in-Some.is in
          rw (w.numbers-is, w.in_ok-push.ensures.items, w.get.ensures, seen)
          (at_yes c.args.rules.now (take i places) p c.args.rule.now numbers c.loop-place.invariant own is (sym w.is_first.ensures ∙ w.if-is_first.true))
      | in-Some+else-is_first w ↦
          let own : Rule = w.in-Some.other.now in
          let is : slice_get c.args.rules.now p ≡ Some own = sym c.rule_in.ensures ∙ ap (λ o. option_copied o) w.in-Some.is in
          rw (w.numbers-is, seen)
          (at_no c.args.rules.now (take i places) p c.args.rule.now numbers c.loop-place.invariant own is (sym w.is_first.ensures ∙ w.if-is_first.false))
      | in_default w ↦
          let is : slice_get c.args.rules.now p ≡ None = sym c.rule_in.ensures ∙ ap (λ o. option_copied o) w.in_default.is in
          rw (w.numbers-is, seen)
          (at_past c.args.rules.now (take i places) p c.args.rule.now numbers c.loop-place.invariant is)
    ]

pub returns : goal.returns
returns c =
    subst (λ (ps : List ℕ). AreFirstAt c.args.rules.now ps c.args.rule.now c.loop-place.numbers.items) (take_all c.loop-place.place-index c.args.places.now c.loop-place-test.false)
    c.loop-place.invariant
