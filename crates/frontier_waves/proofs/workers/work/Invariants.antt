use Rattle.std.proofs.Common.{◌-◌, length}
use Rattle.frontier_waves.specs.Growths.{IsSlot}
use Rattle.frontier_waves.proofs.workers.work.Given as goal

abbrev pub invariant-loop-number : goal.invariant-loop-number
invariant-loop-number g l = IsSlot l.net l.hops l.stride l.wave l.board l.slot

-- a draw gives a number that the seat has not had, and the board has only so many
abbrev pub decreases-loop-number : goal.decreases-loop-number
decreases-loop-number g l = l.board.n - length l.slot.seat.drawn
