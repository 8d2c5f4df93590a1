use Rattle.std.proofs.Common.{take}
use Rattle.header_sets.proofs.Pieces.{Listed}
use Rattle.header_sets.proofs.space.Space.of_patterns.Given as goal

abbrev pub invariant-loop-p : goal.invariant-loop-p
invariant-loop-p l = Listed l.bits (take l.p-index l.list) l.pieces.items
