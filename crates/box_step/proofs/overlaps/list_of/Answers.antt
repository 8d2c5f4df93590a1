use Rattle.std.proofs.Common.{◌∙◌}
use Rattle.std.proofs.lemmas.List.{take_all}
use Rattle.std.proofs.lemmas.List.Filters.{dedup_is}
use Rattle.std.proofs.lemmas.List.Kept.{Contains-dedup_nat, Contains-from_dedup}
use Rattle.std.proofs.lemmas.List.Sorted.{Contains-permutation, IsPermutation-sym}
use Rattle.std.proofs.lemmas.Map.Keys.{IsStrictlyIncreasing-dedup}
use Rattle.net_types.specs.Rules.{numbered}
use Rattle.box_step.proofs.Listing.{list_is}
use Rattle.box_step.proofs.overlaps.list_of.Goals as goal

pub returns-clause-preceding : goal.returns-clause-preceding
returns-clause-preceding c =
    let is = dedup_is _ _ _ c.dedup.ensures.filtered in
    let moved = c.in_ok-sort.ensures.permutation in
    c.loop-number.invariant
    ∙ take_all c.loop-number.number-index c.deref-number-items.result.now c.loop-number-test.false
    ∙ c.deref-number-items.ensures.value
    ∙ list_is c.args.net.now c.bits-rises.ensures.well_formed (numbered c.args.rule.now) c.in_ok-numbers.numbers.items c.dedup.new.self.items c.in_ok-numbers.ensures
    (rw is (IsStrictlyIncreasing-dedup _ c.in_ok-sort.ensures.sorted))
    (λ n h. rw is (Contains-dedup_nat _ n (Contains-permutation _ _ n moved h)))
    (λ n h. Contains-permutation _ _ n (IsPermutation-sym _ _ moved) (Contains-from_dedup _ _ n (rw is at h)))
