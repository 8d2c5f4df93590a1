use Rattle.std.proofs.Common.{take, suc}
use Rattle.header_sets.proofs.Pieces.{Least}
use Rattle.header_sets.proofs.space.Space.least.Given as goal

-- the least header of the first piece and those of the rest that were looked at
abbrev pub invariant-loop-piece : goal.invariant-loop-piece
invariant-loop-piece l = Least l.self.width (take (suc l.piece-index) l.self.pieces) l.least
