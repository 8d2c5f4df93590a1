use Rattle.std.proofs.Common.{◌≡◌, ℕ, List, ◌≤◌, false, take, get_or}
use Rattle.network_model.specs.Cover.{fresh}
use Rattle.rule_cover.specs.Places.{rules_there, ArePlaces, Tells}
use Rattle.rule_cover.proofs.choice.gain_of.Given as goal

abbrev pub invariant-loop-place : goal.invariant-loop-place
invariant-loop-place l = record {
  within : l.gain ≤ l.place-index;
  counted : (numbers rules known : List ℕ) → ArePlaces numbers rules l.places → Tells numbers known (λ p. get_or l.covered p false)
      → l.gain ≡ fresh known (take l.place-index (rules_there numbers l.places));
}
