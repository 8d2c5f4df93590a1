use Rattle.std.proofs.Common.{ℕ, ◌<◌, ◌≤◌, get_or}
use Rattle.rule_cover.proofs.choice.greatest.Given as goal

abbrev pub invariant-loop-gain : goal.invariant-loop-gain
invariant-loop-gain l = record {
  above : (k : ℕ) → k < l.gain-index → get_or l.gains k 0 ≤ l.most;
  least : (bound : ℕ) → ((k : ℕ) → get_or l.gains k 0 ≤ bound) → l.most ≤ bound;
}
