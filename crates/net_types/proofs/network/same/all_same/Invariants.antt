use Rattle.std.proofs.Common.{ℕ, ◌<◌, get_or}
use Rattle.net_types.proofs.network.same.all_same.Given as goal

abbrev pub invariant-loop-i : goal.invariant-loop-i
invariant-loop-i g l = (k : ℕ) (d : g.row.T.Denot) → k < l.i → g.T.Same.alike (get_or l.a k d) (get_or l.b k d)
