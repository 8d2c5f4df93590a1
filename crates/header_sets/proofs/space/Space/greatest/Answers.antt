use Rattle.std.proofs.Common.{arith}
use Rattle.std.proofs.lemmas.List.{take_rest}
use Rattle.header_sets.specs.Spaces.{holds}
use Rattle.header_sets.proofs.Pieces.{space_of, pieces_of, greatest_begins, greatest_keeps, greatest_takes, greatest_ends}
use Rattle.header_sets.proofs.space.Space.greatest.Goals as goal
use Rattle.header_sets.proofs.space.Space.greatest.Goals.{then-number, else-number}

pub loop-piece-init : goal.loop-piece-init
loop-piece-init c =
    greatest_begins _ _ _ (pieces_of _ _ _ c.self.view_is c.as_slice.ensures.value) (space_of _ _ c.self.view_is c.self.invariant)
    c.first-item.result c.greatest-greatest.result c.in-len1-up.len_at_least c.first-item.is c.greatest-greatest.ensures.member c.greatest-greatest.ensures.greatest

pub loop-piece-preserved : goal.loop-piece-preserved
loop-piece-preserved c =
    elim c.if-number.branch [
      | then-number w ↦
          rw w.greatest-is
          (greatest_takes _ _ _ (pieces_of _ _ _ c.self.view_is c.as_slice.ensures.value) (space_of _ _ c.self.view_is c.self.invariant)
          _ c.loop-piece.piece-index c.piece-item.result c.loop-piece.greatest c.greatest-other.result c.loop-piece-test.true c.piece-item.is (take_rest _ 1) c.greatest-other.ensures.member
          c.greatest-other.ensures.greatest c.loop-piece.invariant (omega arith))
      | else-number w ↦
          rw w.greatest-is
          (greatest_keeps _ _ _ (pieces_of _ _ _ c.self.view_is c.as_slice.ensures.value) (space_of _ _ c.self.view_is c.self.invariant)
          _ c.loop-piece.piece-index c.piece-item.result c.loop-piece.greatest c.greatest-other.result c.loop-piece-test.true c.piece-item.is (take_rest _ 1) c.greatest-other.ensures.member
          c.greatest-other.ensures.greatest c.loop-piece.invariant (omega arith))
    ]

pub returns-clause-greatest : goal.returns-clause-greatest
unfolding holds
returns-clause-greatest c h held =
    greatest_ends _ _ _ (pieces_of _ _ _ c.self.view_is c.as_slice.ensures.value) (space_of _ _ c.self.view_is c.self.invariant)
    _ c.loop-piece.piece-index c.loop-piece.greatest c.in-len1-up.len_at_least c.loop-piece-test.false (take_rest _ 1) c.loop-piece.invariant h held
