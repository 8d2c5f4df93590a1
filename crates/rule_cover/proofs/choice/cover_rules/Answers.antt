use Rattle.std.proofs.Common.{ℕ, List, ◌++◌, ◌≤◌, length, false, slice_index, slice_index_or, subst, arith}
use Rattle.std.proofs.lemmas.List.{length-map, take_all}
use Rattle.rule_cover.specs.Places.{rules_there, Tells}
use Rattle.rule_cover.proofs.PlaceLists.{tells_alike, joined_alike}
use Rattle.rule_cover.proofs.Looks.{covers_next}
use Rattle.rule_cover.proofs.choice.cover_rules.Goals as goal

pub loop-place-preserved : goal.loop-place-preserved
loop-place-preserved c numbers rules known rises p told =
    let i = c.loop-place.place-index in
    covers_next numbers rules c.args.places.now known c.loop-place.covered i rises p c.loop-place-test.true (omega (arith, c.requires i c.loop-place-test.true))
    (c.loop-place.invariant numbers rules known rises p told)

pub returns : goal.returns
returns c numbers rules known rises p told =
    let there = rules_there numbers c.args.places.now in
    let whole : length there ≤ c.loop-place.place-index = omega (arith, length-map c.args.places.now (slice_index numbers)) in
    tells_alike numbers (known ++ there) (known ++ rules) (λ q. slice_index_or c.loop-place.covered q false) (joined_alike numbers rules c.args.places.now known p)
    (subst (λ (xs : List ℕ). Tells numbers (known ++ xs) (λ q. slice_index_or c.loop-place.covered q false)) (take_all c.loop-place.place-index there whole) (c.loop-place.invariant numbers rules known rises p told))
