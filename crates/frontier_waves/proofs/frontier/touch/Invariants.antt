use Rattle.std.proofs.Common.{take}
use Rattle.frontier_waves.proofs.Touching.{HasJoined}
use Rattle.frontier_waves.proofs.frontier.touch.Given as goal

-- the pairs of the boxes so far have joined
abbrev pub invariant-loop-at : goal.invariant-loop-at
invariant-loop-at l = HasJoined l.fn.touched l.touched l.start (take l.at-index l.boxes)
