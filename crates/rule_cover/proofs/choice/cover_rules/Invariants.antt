use Rattle.std.proofs.Common.{ℕ, List, ◌++◌, false, take, get_or}
use Rattle.std.specs.List.Sorted.{IsStrictlyIncreasing}
use Rattle.rule_cover.specs.Places.{rules_there, ArePlaces, Tells}
use Rattle.rule_cover.proofs.choice.cover_rules.Given as goal

abbrev pub invariant-loop-place : goal.invariant-loop-place
invariant-loop-place l = (numbers rules known : List ℕ) → IsStrictlyIncreasing numbers → ArePlaces numbers rules l.places → Tells numbers known (λ p. get_or l.initial.covered p false)
    → Tells numbers (known ++ take l.place-index (rules_there numbers l.places)) (λ p. get_or l.covered p false)
