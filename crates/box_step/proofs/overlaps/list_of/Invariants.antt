use Rattle.std.proofs.Common.{◌≡◌, take}
use Rattle.box_step.proofs.overlaps.list_of.Given as goal

abbrev pub invariant-loop-number : goal.invariant-loop-number
invariant-loop-number l = l.preceding ≡ take l.number-index l.number-items
