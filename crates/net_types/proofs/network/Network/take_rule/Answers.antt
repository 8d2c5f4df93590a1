use Rattle.std.proofs.Common.{◌≡◌, ℕ, ◌<◌, List, get_or, Some, IsSome, length, map, sym, ap, ◌∙◌}
use Rattle.std.specs.List.{remove, slice_get}
use Rattle.std.specs.Vec.{with_items}
use Rattle.std.proofs.lemmas.List.{length-map, with_items_is}
use Rattle.network_model.specs.Network as model
use Rattle.network_model.specs.Network.{value_at}
use Rattle.network_model.specs.Building.{without_rule}
use Rattle.net_types.specs.declared.network.Network.TheInside.{Inside}
use Rattle.net_types.specs.declared.network.RulePlace.{RulePlace}
use Rattle.net_types.specs.Places.{IsAt}
use Rattle.net_types.specs.Tables.{lowered, indexed}
use Rattle.net_types.proofs.Changes.{rising, no_gap, place_inside, cut_indexed, cut_network}
use Rattle.net_types.proofs.Placed.{get_at}
use Rattle.net_types.proofs.network.Network.take_rule.Goals as goal

abbrev here : Inside → model.Network
here n = indexed n.parts n.rules.items n.places.items

pub place_of-requires : goal.place_of-requires
place_of-requires c = rw c.deref.ensures.value (rising _ _ _ _ _ c.self.invariant)

-- the rule has a row
pub unreachable-requires : goal.unreachable-requires
unreachable-requires c =
    let found : IsSome (value_at (here c.self.inside).rules c.args.id) = rw (← c.self.view_is) at c.requires in
    no_gap _ _ _ _ _ c.self.invariant c.args.id c.in_default.field-0 (rw (c.deref.ensures.value, c.get.ensures) at c.in_default.ensures.gap) found

row_at : (rows : List RulePlace) (i id : ℕ) (row : RulePlace) → IsAt (λ (r : RulePlace). r.id) rows id i → row ≡ get_or rows i row → (slice_get rows i ≡ Some row) × (row.id ≡ id)
row_at rows i id row found is = (get_at rows i row found.inside ∙ ap Some (sym is), ap (λ (r : RulePlace). r.id) is ∙ found.same row)

pub remove-requires-2 : goal.remove-requires-2
remove-requires-2 c =
    let found : IsAt (λ (r : RulePlace). r.id) c.self.inside.places.items c.args.id c.in-Ok.row = rw (c.deref.ensures.value, c.get.ensures) at c.in-Ok.ensures.found in
    let inside : c.index.result.now.place < length c.self.inside.rules.items =
    place_inside _ _ _ _ _ c.self.invariant c.in-Ok.row c.index.result.now (row_at _ _ _ _ found c.index.ensures).0 in
    rw c.self.inside.rules.ok.0 inside

-- the rows of the others say where they stand now
rows_now : (c : goal.After-self-1) → (with_items c.remove.new.self c.lower.new.places).items ≡ map (lowered c.index.result.now.place) (remove c.self.inside.places.items c.in-Ok.row)
rows_now c =
    let left : c.deref_mut.result.now ≡ remove c.self.inside.places.items c.in-Ok.row = c.deref_mut.ensures.value ∙ c.remove.ensures.items in
    let moved : c.lower.new.places ≡ map (lowered c.index.result.now.place) (remove c.self.inside.places.items c.in-Ok.row) = c.lower.ensures ∙ ap (map (lowered c.index.result.now.place)) left in
    let long : length c.lower.new.places ≡ c.remove.new.self.len =
    ap length c.lower.ensures ∙ length-map c.deref_mut.result.now (lowered c.index.result.now.place) ∙ ap length c.deref_mut.ensures.value ∙ sym c.remove.new.self.ok.0 in
    with_items_is c.remove.new.self c.lower.new.places long ∙ moved

pub invariant_of-self : goal.invariant_of-self
invariant_of-self c =
    let found : IsAt (λ (r : RulePlace). r.id) c.self.inside.places.items c.args.id c.in-Ok.row = rw (c.deref.ensures.value, c.get.ensures) at c.in-Ok.ensures.found in
    rw (c.remove-2.ensures.items, rows_now c) (cut_indexed _ _ _ _ _ c.self.invariant c.in-Ok.row c.index.result.now (row_at _ _ _ _ found c.index.ensures).0)

pub returns : goal.returns
returns c =
    let found : IsAt (λ (r : RulePlace). r.id) c.self.inside.places.items c.args.id c.in-Ok.row = rw (c.deref.ensures.value, c.get.ensures) at c.in-Ok.ensures.found in
    let there = row_at c.self.inside.places.items c.in-Ok.row c.args.id c.index.result.now found c.index.ensures in
    rw (c.remove-2.ensures.items, rows_now c)
    (cut_network _ _ _ _ _ c.self.invariant c.in-Ok.row c.index.result.now there.0 ∙ ap (λ id. without_rule id (here c.self.inside)) there.1 ∙ ap (without_rule c.args.id) c.self.view_is)
