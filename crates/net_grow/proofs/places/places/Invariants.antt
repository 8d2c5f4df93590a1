use Rattle.std.proofs.Common.{◌≡◌}
use Rattle.net_grow.specs.Places.{places}
use Rattle.net_grow.proofs.places.places.Given as goal

abbrev pub invariant-loop-edge : goal.invariant-loop-edge
invariant-loop-edge l = l.net ≡ places l.edge
