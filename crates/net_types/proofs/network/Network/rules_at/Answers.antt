use Rattle.std.proofs.Common.{◌≡◌, eqb}
use Rattle.std.specs.List.{filter}
use Rattle.net_types.specs.declared.rule.Rule.{Rule}
use Rattle.net_types.proofs.InPrecedence.{boxes_rise}
use Rattle.net_types.proofs.Boxes.{result_hits, result_sound, result_complete, result_order, result_fits}
use Rattle.net_types.proofs.network.Network.rules_at.Goals as goal

pub rows_of_box-requires : goal.rows_of_box-requires
rows_of_box-requires c = rw c.deref.ensures.value (boxes_rise c.self.inside.rules.items c.self.invariant.by_box.order)

abbrev OfBox : goal.After-rows_of_box → Type 0
OfBox c = c.rows_of_box.result.now ≡ filter (λ (r : Rule). eqb r.«at» c.args.«at») c.self.inside.rules.items

of_box : (c : goal.After-rows_of_box) → OfBox c
of_box c = rw c.deref.ensures.value at c.rows_of_box.ensures

pub returns-clause-first : goal.returns-clause-first
returns-clause-first c = rw (← c.self.view_is) (result_hits _ _ _ _ _ c.self.invariant c.args.«at» _ (of_box c))

pub returns-clause-all : goal.returns-clause-all
returns-clause-all c = rw (← c.self.view_is) (λ rule.
    (result_sound _ _ _ _ _ c.self.invariant c.args.«at» _ (of_box c) rule, result_complete _ _ _ _ _ c.self.invariant c.args.«at» _ (of_box c) rule))

pub returns-clause-order : goal.returns-clause-order
returns-clause-order c = result_order _ _ _ _ _ c.self.invariant c.args.«at» _ (of_box c)

pub returns-clause-fit : goal.returns-clause-fit
returns-clause-fit c = rw (← c.self.view_is) (result_fits _ _ _ _ _ c.self.invariant c.args.«at» _ (of_box c))
