use Rattle.std.proofs.Common.{◌≡◌, ℕ, List, ◌++◌, ◌∷◌, [], false, true, nat_eq, slice_index, slice_set, refl, sym, subst, arith}
use Rattle.std.proofs.lemmas.Bool.{eq-eqb, ne_eqb}
use Rattle.rule_cover.specs.Places.{rules_there, ArePlaces, Tells}
use Rattle.rule_cover.proofs.Looks.{listed_same, listed_more, told_more}
use Rattle.rule_cover.proofs.places.add_rule.Goals as goal

pub returns-in_ok-push-clause-places : goal.returns-in_ok-push-clause-places
returns-in_ok-push-clause-places c rules p told =
    let numbers = c.args.numbers.now in
    let latest = c.args.latest.now in
    let place = c.place_by-place.result in
    let off : nat_eq c.args.number (slice_index latest place) ≡ false = ne_eqb c.args.number (slice_index latest place) (λ e. c.if-latest-place.true (sym e)) in
    let items : c.push.new.self.items ≡ c.args.list.now.items ++ place ∷ [] = c.in_ok-push.ensures.items in
    subst (ArePlaces numbers (rules ++ c.args.rule ∷ [])) (sym items)
    (listed_more numbers rules c.args.list.now.items latest c.args.number place c.args.rule p told c.place_by-place.ensures.inside c.place_by-place.ensures.found off)

pub returns-in_ok-push-clause-told : goal.returns-in_ok-push-clause-told
returns-in_ok-push-clause-told c told =
    let numbers = c.args.numbers.now in
    let latest = c.args.latest.now in
    let number = c.args.number in
    let place = c.place_by-place.result in
    let items : c.push.new.self.items ≡ c.args.list.now.items ++ place ∷ [] = c.in_ok-push.ensures.items in
    subst (λ (ps : List ℕ). Tells numbers (rules_there numbers ps) (λ p. nat_eq number (slice_index (slice_set latest place number) p))) (sym items)
    (told_more numbers c.args.list.now.items latest number place c.requires.rises c.place_by-place.ensures.inside (omega arith) (eq-eqb number number refl) told)

pub returns-else-latest-place-clause-places : goal.returns-else-latest-place-clause-places
returns-else-latest-place-clause-places c rules p told =
    let latest = c.args.latest.now in
    let place = c.place_by-place.result in
    let on : nat_eq c.args.number (slice_index latest place) ≡ true = eq-eqb c.args.number (slice_index latest place) (sym c.if-latest-place.false) in
    listed_same c.args.numbers.now rules c.args.list.now.items latest c.args.number place c.args.rule p told c.place_by-place.ensures.inside c.place_by-place.ensures.found on
