use Rattle.std.proofs.Common.{take}
use Rattle.box_step.specs.Overlaps.{AreFirstAt}
use Rattle.box_step.proofs.overlaps.first_at.Given as goal

-- those at the places so far are there
abbrev pub invariant-loop-place : goal.invariant-loop-place
invariant-loop-place l = AreFirstAt l.rules (take l.place-index l.places) l.rule l.numbers.items
