use Rattle.std.proofs.Common.{take}
use Rattle.box_step.specs.Overlaps.{AreFirst}
use Rattle.box_step.proofs.overlaps.first_among.Given as goal

abbrev pub invariant-loop-other : goal.invariant-loop-other
invariant-loop-other l = AreFirst (take l.other-index l.rules) l.rule l.numbers.items
