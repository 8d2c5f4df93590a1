use Rattle.std.proofs.Common.{take}
use Rattle.twin_groups.proofs.Joins.{HasBoxes}
use Rattle.twin_groups.proofs.touching.add_twin.Given as goal

-- the boxes so far have joined
abbrev pub invariant-loop-place : goal.invariant-loop-place
invariant-loop-place l = HasBoxes l.touched l.fn.all l.all l.first l.other (take l.place l.net.boxes)
