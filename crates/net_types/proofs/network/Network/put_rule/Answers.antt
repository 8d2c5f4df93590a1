use Rattle.std.proofs.Common.{◌≡◌, ◌<◌, ◌≤◌, length, map, ap, sym, ◌∙◌, None, cond, arith}
use Rattle.std.specs.List.{insert}
use Rattle.std.specs.Vec.{with_items}
use Rattle.std.proofs.lemmas.List.{length-map, with_items_is}
use Rattle.network_model.specs.Network as model
use Rattle.network_model.specs.Network.{value_at}
use Rattle.network_model.specs.WellFormed.{FitsRule}
use Rattle.network_model.specs.Limits.{most_rules}
use Rattle.net_types.specs.declared.network.Network.TheInside.{Inside}
use Rattle.net_types.specs.declared.network.RulePlace.{RulePlace}
use Rattle.net_types.specs.Places.{IsGap}
use Rattle.net_types.specs.Rules.{model_of}
use Rattle.net_types.specs.Tables.{IsPlaceInPrecedence, raised, indexed}
use Rattle.net_types.proofs.Changes.{rising, few_rules, few_places, no_place, put_network, put_indexed, kept_rows}
use Rattle.net_types.proofs.Placed.{wider}
use Rattle.net_types.proofs.network.Network.put_rule.Goals as goal

abbrev here : Inside → model.Network
here n = indexed n.parts n.rules.items n.places.items

pub place_of-requires : goal.place_of-requires
place_of-requires c = rw c.deref.ensures.value (rising _ _ _ _ _ c.self.invariant)

-- no rule has the number
pub unreachable-requires : goal.unreachable-requires
unreachable-requires c =
    let free : value_at (here c.self.inside).rules c.args.rule.id ≡ None = rw (← c.self.view_is) at c.requires.free in
    no_place _ _ _ _ _ c.self.invariant c.args.rule.id c.in_default.field-0 (rw (c.deref.ensures.value, c.get.ensures) at c.in_default.ensures.found) free

pub overflow_cast-place : goal.overflow_cast-place
overflow_cast-place c =
    let inside : c.place_in_precedence-at.result ≤ length c.self.inside.rules.items = rw (ap length c.deref-2.ensures.value) at c.place_in_precedence-at.ensures.inside in
    omega (arith, few_rules _ _ _ _ _ c.self.invariant)

-- there was no memory for it among the rules, and its row is taken out again
pub invariant_of-self-then-is_err : goal.invariant_of-self-then-is_err
invariant_of-self-then-is_err c =
    let gap : IsGap (λ (r : RulePlace). r.id) c.self.inside.places.items c.args.rule.id c.in-Err.row = rw (c.deref.ensures.value, c.get.ensures) at c.in-Err.ensures.gap in
    let rules_are : c.insert-2.new.self.items ≡ c.self.inside.rules.items =
    c.insert-2.ensures.items ∙ ap (λ b. cond b (insert c.self.inside.rules.items c.place_in_precedence-at.result c.args.rule) c.self.inside.rules.items) c.if-is_err.ensures.negation in
    let rows_are : c.remove.new.self.items ≡ c.self.inside.places.items = kept_rows c.self.inside.places.items c.insert.new.self.items c.remove.new.self.items c.in-Err.row _ gap.inside c.in_ok-insert.ensures.items c.remove.ensures.items in
    rw (rules_are, rows_are) c.self.invariant

pub returns-then-is_err-clause-err : goal.returns-then-is_err-clause-err
returns-then-is_err-clause-err c =
    let gap : IsGap (λ (r : RulePlace). r.id) c.self.inside.places.items c.args.rule.id c.in-Err.row = rw (c.deref.ensures.value, c.get.ensures) at c.in-Err.ensures.gap in
    let rules_are : c.insert-2.new.self.items ≡ c.self.inside.rules.items =
    c.insert-2.ensures.items ∙ ap (λ b. cond b (insert c.self.inside.rules.items c.place_in_precedence-at.result c.args.rule) c.self.inside.rules.items) c.if-is_err.ensures.negation in
    let rows_are : c.remove.new.self.items ≡ c.self.inside.places.items = kept_rows c.self.inside.places.items c.insert.new.self.items c.remove.new.self.items c.in-Err.row _ gap.inside c.in_ok-insert.ensures.items c.remove.ensures.items in
    rw (rules_are, rows_are) c.self.view_is

pub raise-requires : goal.raise-requires
raise-requires c =
    let inside : c.place_in_precedence-at.result ≤ length c.self.inside.rules.items = rw (ap length c.deref-2.ensures.value) at c.place_in_precedence-at.ensures.inside in
    let more : c.deref_mut.result.now ≡ insert c.self.inside.places.items c.in-Err.row (record { id = c.args.rule.id; place = c.place_in_precedence-at.result }) = c.deref_mut.ensures.value ∙ c.in_ok-insert.ensures.items in
    rw more (few_places _ _ _ _ _ c.self.invariant c.args.rule.id c.in-Err.row c.place_in_precedence-at.result inside)

-- it has its place and its row now
rows_now : (c : goal.After-self-1) → (with_items c.insert.new.self c.raise.new.places).items ≡ wider c.self.inside.places.items c.in-Err.row c.args.rule.id c.place_in_precedence-at.result
rows_now c =
    let more : c.deref_mut.result.now ≡ insert c.self.inside.places.items c.in-Err.row (record { id = c.args.rule.id; place = c.place_in_precedence-at.result }) = c.deref_mut.ensures.value ∙ c.in_ok-insert.ensures.items in
    let moved : c.raise.new.places ≡ wider c.self.inside.places.items c.in-Err.row c.args.rule.id c.place_in_precedence-at.result =
    c.raise.ensures ∙ ap (map (raised c.args.rule.id c.place_in_precedence-at.result)) more in
    let long : length c.raise.new.places ≡ c.insert.new.self.len =
    ap length c.raise.ensures ∙ length-map c.deref_mut.result.now (raised c.args.rule.id c.place_in_precedence-at.result) ∙ ap length c.deref_mut.ensures.value ∙ sym c.insert.new.self.ok.0 in
    with_items_is c.insert.new.self c.raise.new.places long ∙ moved

rules_now : (c : goal.After-self-1) → c.insert-2.new.self.items ≡ insert c.self.inside.rules.items c.place_in_precedence-at.result c.args.rule
rules_now c = c.insert-2.ensures.items ∙ ap (λ b. cond b (insert c.self.inside.rules.items c.place_in_precedence-at.result c.args.rule) c.self.inside.rules.items) c.if-is_err.ensures.negation

pub invariant_of-self-2 : goal.invariant_of-self-2
invariant_of-self-2 c =
    let rule = c.args.rule in
    let gap : IsGap (λ (r : RulePlace). r.id) c.self.inside.places.items rule.id c.in-Err.row = rw (c.deref.ensures.value, c.get.ensures) at c.in-Err.ensures.gap in
    let place : IsPlaceInPrecedence rule c.self.inside.rules.items c.place_in_precedence-at.result = rw c.deref-2.ensures.value at c.place_in_precedence-at.ensures in
    let free : value_at (here c.self.inside).rules rule.id ≡ None = rw (← c.self.view_is) at c.requires.free in
    let fits : FitsRule (here c.self.inside) (model_of rule) = rw (← c.self.view_is) at c.requires.fits in
    let room : length (here c.self.inside).rules < most_rules = rw (← c.self.view_is) at c.requires.room in
    rw (rules_now c, rows_now c) (put_indexed _ _ _ _ _ c.self.invariant c.in-Err.row c.place_in_precedence-at.result rule gap place free fits room)

pub returns-clause-ok : goal.returns-clause-ok
returns-clause-ok c =
    let rule = c.args.rule in
    let gap : IsGap (λ (r : RulePlace). r.id) c.self.inside.places.items rule.id c.in-Err.row = rw (c.deref.ensures.value, c.get.ensures) at c.in-Err.ensures.gap in
    let place : IsPlaceInPrecedence rule c.self.inside.rules.items c.place_in_precedence-at.result = rw c.deref-2.ensures.value at c.place_in_precedence-at.ensures in
    let free : value_at (here c.self.inside).rules rule.id ≡ None = rw (← c.self.view_is) at c.requires.free in
    let fits : FitsRule (here c.self.inside) (model_of rule) = rw (← c.self.view_is) at c.requires.fits in
    let room : length (here c.self.inside).rules < most_rules = rw (← c.self.view_is) at c.requires.room in
    rw (rules_now c, rows_now c, ← c.self.view_is) (put_network _ _ _ _ _ c.self.invariant c.in-Err.row c.place_in_precedence-at.result rule gap place free fits room)
