use Rattle.std.proofs.Common.{ℕ, ◌≤◌, get_or}
use Rattle.rule_cover.specs.Choices.{IsUnderway}
use Rattle.rule_cover.proofs.choice.choose.Given as goal

abbrev pub invariant-loop-most : goal.invariant-loop-most
invariant-loop-most l = record {
  underway : IsUnderway l.lists.numbers.items l.lists.table.now l.choice.probes.items l.choice.covered.items l.choice.kept.items;
  greatest : (k : ℕ) → get_or l.choice.kept.items k 0 ≤ l.most;
}

abbrev pub decreases-loop-most : goal.decreases-loop-most
decreases-loop-most l = l.most
