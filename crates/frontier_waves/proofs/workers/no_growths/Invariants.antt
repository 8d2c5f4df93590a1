use Rattle.std.proofs.Common.{◌≡◌, None, replicate}
use Rattle.frontier_waves.proofs.workers.no_growths.Given as goal

abbrev pub invariant-loop : goal.invariant-loop
invariant-loop l = l.places.items ≡ replicate l.counter None
