use Rattle.std.proofs.Common.{◌+◌, ◌≤◌, ℕ, List, length, false, slice_index, slice_index_or, sym, ap, ◌∙◌, arith}
use Rattle.std.proofs.lemmas.List.{length-map, take_all}
use Rattle.network_model.specs.Cover.{fresh}
use Rattle.rule_cover.specs.Places.{rules_there}
use Rattle.rule_cover.proofs.Looks.{counts_open, counts_covered}
use Rattle.rule_cover.proofs.choice.gain_of.Goals as goal
use Rattle.rule_cover.proofs.choice.gain_of.Goals.{then-not-covered-place, else-not-covered-place}

pub loop-place-preserved : goal.loop-place-preserved
loop-place-preserved c =
    let places = c.args.places.now in
    let i = c.loop-place.place-index in
    elim c.if-not-covered-place.branch [
      | then-not-covered-place w ↦ record {
        within = omega arith;
        counted = λ numbers rules known p told.
            w.gain-is ∙ (ap (λ (n : ℕ). n + 1) (c.loop-place.invariant.counted numbers rules known p told)
            ∙ sym (counts_open numbers rules places known (λ q. slice_index_or c.args.covered.now q false) i p told c.loop-place-test.true w.if-not-covered-place.true));
      }
      | else-not-covered-place w ↦ record {
        within = omega arith;
        counted = λ numbers rules known p told.
            w.gain-is ∙ (c.loop-place.invariant.counted numbers rules known p told
            ∙ sym (counts_covered numbers rules places known (λ q. slice_index_or c.args.covered.now q false) i p told c.loop-place-test.true w.if-not-covered-place.false));
      }
    ]

pub returns : goal.returns
returns c numbers rules known p told =
    let there = rules_there numbers c.args.places.now in
    let whole : length there ≤ c.loop-place.place-index = omega (arith, length-map c.args.places.now (slice_index numbers)) in
    c.loop-place.invariant.counted numbers rules known p told ∙ (ap (λ (xs : List ℕ). fresh known xs) (take_all c.loop-place.place-index there whole) ∙ p.adds known)
