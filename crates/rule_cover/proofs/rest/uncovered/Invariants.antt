use Rattle.std.proofs.Common.{◌≡◌, ℕ, List, false, not, map, take, nat_eq, get_or}
use Rattle.std.specs.List.{filter, list_any}
use Rattle.network_model.specs.Network.{Numbered}
use Rattle.rule_cover.specs.Places.{numbers_of, Tells}
use Rattle.rule_cover.proofs.rest.uncovered.Given as goal

abbrev pub invariant-loop-i : goal.invariant-loop-i
invariant-loop-i l = (known : List ℕ) → Tells (numbers_of l.net) known (λ p. get_or l.covered p false)
    → l.rest.items ≡ filter (λ r. not (list_any (nat_eq r) known)) (map (λ (r : Numbered). r.0) (take l.i l.net.rules))
