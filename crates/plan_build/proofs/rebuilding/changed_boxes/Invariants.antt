use Rattle.std.proofs.Common.{take}
use Rattle.plan_build.specs.Keeping.{AreChanged}
use Rattle.plan_build.proofs.rebuilding.changed_boxes.Given as goal

-- those of the boxes so far that aren't the same
abbrev pub invariant-loop-place : goal.invariant-loop-place
invariant-loop-place l = AreChanged l.old l.net (take l.place l.old.boxes) l.changed.items
