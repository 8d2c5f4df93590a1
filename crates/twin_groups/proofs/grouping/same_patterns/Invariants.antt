use Rattle.std.proofs.Common.{◌≡◌, ℕ, ◌<◌, get_or}
use Rattle.network_model.specs.Bits.{Pattern}
use Rattle.twin_groups.proofs.grouping.same_patterns.Given as goal

-- the patterns so far are the same
abbrev pub invariant-loop-i : goal.invariant-loop-i
invariant-loop-i l = (k : ℕ) (d : Pattern) → k < l.i → get_or l.a k d ≡ get_or l.b k d
