use Rattle.std.proofs.Common.{◌≡◌, length, ◌++◌}
use Rattle.ternary_bits.specs.Pieces.{pieces}
use Rattle.ternary_bits.proofs.pattern.Pattern.minus.Given as goal

-- the pieces so far and those of the rest are the pieces of the whole
abbrev pub invariant-loop-piece : goal.invariant-loop-piece
invariant-loop-piece l =
    record {
      all : l.pieces.items ++ pieces l.rest l.other ≡ pieces l.self l.other;
      width : length l.rest ≡ length l.other;
    }

abbrev pub decreases-loop-piece : goal.decreases-loop-piece
decreases-loop-piece l = length (pieces l.rest l.other)
