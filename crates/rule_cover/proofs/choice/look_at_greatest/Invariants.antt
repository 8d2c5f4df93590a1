use Rattle.std.proofs.Common.{ℕ, ◌<◌, ◌≤◌, get_or}
use Rattle.rule_cover.specs.Choices.{IsUnderway}
use Rattle.rule_cover.proofs.choice.look_at_greatest.Given as goal

abbrev pub invariant-loop-row : goal.invariant-loop-row
invariant-loop-row l = record {
  underway : IsUnderway l.lists.numbers.items l.lists.table.now l.choice.probes.items l.choice.covered.items l.choice.kept.items;
  greatest : (k : ℕ) → get_or l.choice.kept.items k 0 ≤ l.most;
  seen : (k : ℕ) → k < l.row → get_or l.choice.kept.items k 0 ≤ l.next;
  less : l.next < l.most;
}
