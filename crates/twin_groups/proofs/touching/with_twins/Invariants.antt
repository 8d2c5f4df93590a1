use Rattle.std.proofs.Common.{take}
use Rattle.twin_groups.proofs.Joins.{HasTwins}
use Rattle.twin_groups.proofs.touching.with_twins.Given as goal

-- the boxes of the twins so far have joined
abbrev pub invariant-loop-twin : goal.invariant-loop-twin
invariant-loop-twin l = HasTwins l.fn.touched l.all l.net.boxes (take l.twin-index l.twins)
