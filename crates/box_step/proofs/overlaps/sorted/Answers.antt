use Rattle.std.proofs.Common.{ℕ, List, subst, sym}
use Rattle.std.specs.List.Sorted.{IsStrictlyIncreasing}
use Rattle.box_step.proofs.Listing.{numbers_listed}
use Rattle.box_step.proofs.overlaps.sorted.Goals as goal

pub invariant_of-result : goal.invariant_of-result
invariant_of-result c = record {
  rising = subst (λ (ns : List ℕ). IsStrictlyIncreasing ns) (sym (numbers_listed c.args.net.now c.args.rows.items c.requires)) c.bits-rises.ensures.well_formed.rules;
}
