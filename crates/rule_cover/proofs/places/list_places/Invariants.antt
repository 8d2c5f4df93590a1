use Rattle.std.proofs.Common.{ℕ, ◌≤◌, take, nat_eq, get_or}
use Rattle.rule_cover.specs.Places.{rules_there, ArePlaces, Tells}
use Rattle.rule_cover.proofs.places.list_places.Given as goal

abbrev pub invariant-loop-rule : goal.invariant-loop-rule
invariant-loop-rule l = record {
  places : ArePlaces l.numbers (take l.rule-index l.rules) l.list.items;
  told : Tells l.numbers (rules_there l.numbers l.list.items) (λ p. nat_eq l.number (get_or l.latest p 0));
  latest : (p : ℕ) → get_or l.latest p 0 ≤ l.number;
}
