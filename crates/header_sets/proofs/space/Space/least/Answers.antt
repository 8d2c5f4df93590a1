use Rattle.std.proofs.Common.{arith}
use Rattle.std.proofs.lemmas.List.{take_rest}
use Rattle.header_sets.specs.Spaces.{holds}
use Rattle.header_sets.proofs.Pieces.{space_of, pieces_of, least_begins, least_keeps, least_takes, least_ends}
use Rattle.header_sets.proofs.space.Space.least.Goals as goal
use Rattle.header_sets.proofs.space.Space.least.Goals.{then-number, else-number}

pub loop-piece-init : goal.loop-piece-init
loop-piece-init c =
    least_begins _ _ _ (pieces_of _ _ _ c.self.view_is c.as_slice.ensures.value) (space_of _ _ c.self.view_is c.self.invariant)
    c.first-item.result c.least-least.result c.in-len1-up.len_at_least c.first-item.is c.least-least.ensures.member c.least-least.ensures.least

pub loop-piece-preserved : goal.loop-piece-preserved
loop-piece-preserved c =
    elim c.if-number.branch [
      | then-number w ↦
          rw w.least-is
          (least_takes _ _ _ (pieces_of _ _ _ c.self.view_is c.as_slice.ensures.value) (space_of _ _ c.self.view_is c.self.invariant)
          _ c.loop-piece.piece-index c.piece-item.result c.loop-piece.least c.least-other.result c.loop-piece-test.true c.piece-item.is (take_rest _ 1) c.least-other.ensures.member
          c.least-other.ensures.least c.loop-piece.invariant (omega arith))
      | else-number w ↦
          rw w.least-is
          (least_keeps _ _ _ (pieces_of _ _ _ c.self.view_is c.as_slice.ensures.value) (space_of _ _ c.self.view_is c.self.invariant)
          _ c.loop-piece.piece-index c.piece-item.result c.loop-piece.least c.least-other.result c.loop-piece-test.true c.piece-item.is (take_rest _ 1) c.least-other.ensures.member
          c.least-other.ensures.least c.loop-piece.invariant (omega arith))
    ]

pub returns-clause-least : goal.returns-clause-least
unfolding holds
returns-clause-least c h held =
    least_ends _ _ _ (pieces_of _ _ _ c.self.view_is c.as_slice.ensures.value) (space_of _ _ c.self.view_is c.self.invariant)
    _ c.loop-piece.piece-index c.loop-piece.least c.in-len1-up.len_at_least c.loop-piece-test.false (take_rest _ 1) c.loop-piece.invariant h held
