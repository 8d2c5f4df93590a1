use Rattle.std.proofs.Common.{rules, subst}
use Rattle.std.specs.List.Sorted.{IsStableByKey}
use Rattle.std.specs.Ordering.{nat_cmp}
use Rattle.std.proofs.lemmas.List.Sorted.{IsNonDecreasingBy-from_sort_by_key, answers_always}
use Rattle.net_types.specs.declared.parts.Port.{Port}
use Rattle.net_types.proofs.InPrecedence.{box_stable}
use Rattle.net_types.proofs.network.by_box.ports_by_box.Goals as goal

-- the sort is stable, so the ports of a box keep their order
pub returns : goal.returns
returns c =
    let stable = c.sort_by_key.ensures.stable (λ (p : Port). p.«at») (answers_always _ _ _ (λ f a r k called. search rules)) in
    record {
      same = λ box. box_stable c.args.ports.now c.sort_by_key.new.self.items (subst (λ l. IsStableByKey (λ (p : Port). p.«at») nat_cmp l c.sort_by_key.new.self.items) c.in_ok-by_box.ensures.items stable) box;
      rises = IsNonDecreasingBy-from_sort_by_key (λ (p : Port). p.«at») _ c.in_ok-sort_by_key.ensures.sorted (λ a r f called. search rules);
    }
