use Rattle.std.proofs.Common.{◌≡◌, ℕ, Some, take}
use Rattle.std.specs.List.{Contains}
use Rattle.std.specs.Ordering.{nat_cmp}
use Rattle.std.specs.BTreeMap.{get}
use Rattle.network_model.specs.Bits.{Pattern}
use Rattle.box_step.proofs.taken.Taken.of_rules.Given as goal

-- what is there was taken, and all is there that the rules of the numbers so far took
abbrev pub invariant-loop-number : goal.invariant-loop-number
invariant-loop-number l = record {
  all : (sources : Pattern) → Contains l.own.items sources → (number : ℕ) × (get nat_cmp l.self.by_number number ≡ Some sources);
  every : (number : ℕ) (sources : Pattern) → Contains (take l.number-index l.numbers) number → get nat_cmp l.self.by_number number ≡ Some sources → Contains l.own.items sources;
}
