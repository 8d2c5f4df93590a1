use Rattle.net_types.specs.Tables.{raised}
use Rattle.net_types.proofs.Placed.{IsDone}
use Rattle.net_types.proofs.network.places.raise.Given as goal

abbrev pub invariant-loop-i : goal.invariant-loop-i
invariant-loop-i l = IsDone (raised l.id l.start) l.initial.places l.places l.i
