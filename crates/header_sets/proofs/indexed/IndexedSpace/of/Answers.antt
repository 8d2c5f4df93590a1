use Rattle.std.proofs.Common.{◌≡◌, ◌∙◌, List}
use Rattle.std.proofs.lemmas.List.{take_all}
use Rattle.header_sets.specs.Spaces.{PieceValue}
use Rattle.header_sets.proofs.indexed.IndexedSpace.of.Goals as goal

pub invariant_of-result : goal.invariant_of-result
invariant_of-result c =
    let items : List PieceValue = c.pieces-piece-items.result.now in
    let all : c.loop-piece.pieces.items ≡ items = c.loop-piece.invariant ∙ take_all c.loop-piece.piece-index items c.loop-piece-test.false in
    rw (all, c.bits.ensures.width) c.pieces-piece-items.ensures.space
