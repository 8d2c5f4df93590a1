use Rattle.std.proofs.Common.{take, suc}
use Rattle.header_sets.proofs.Pieces.{Greatest}
use Rattle.header_sets.proofs.space.Space.greatest.Given as goal

-- the greatest header of the first piece and those of the rest that were looked at
abbrev pub invariant-loop-piece : goal.invariant-loop-piece
invariant-loop-piece l = Greatest l.self.width (take (suc l.piece-index) l.self.pieces) l.greatest
