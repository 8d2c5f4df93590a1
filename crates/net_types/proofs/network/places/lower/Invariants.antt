use Rattle.net_types.specs.Tables.{lowered}
use Rattle.net_types.proofs.Placed.{IsDone}
use Rattle.net_types.proofs.network.places.lower.Given as goal

abbrev pub invariant-loop-i : goal.invariant-loop-i
invariant-loop-i l = IsDone (lowered l.gap) l.initial.places l.places l.i
