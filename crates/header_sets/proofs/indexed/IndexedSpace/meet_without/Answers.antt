use Rattle.std.proofs.Common.{◌∙◌, sym, ap}
use Rattle.header_sets.specs.Spaces.{SpaceValue, is_left}
use Rattle.header_sets.proofs.Pieces.{made_some, made_skip}
use Rattle.header_sets.proofs.indexed.IndexedSpace.meet_without.Goals as goal
use Rattle.header_sets.proofs.indexed.IndexedSpace.meet_without.Goals.{in-Some+in_ok-push, in_default}

pub loop-own-preserved : goal.loop-own-preserved
loop-own-preserved c =
    elim c.match-branch-3.branch [
      | in-Some+in_ok-push w ↦
          rw (w.pieces-is, w.in_ok-push.ensures.items)
          (made_some (is_left c.args.p.now c.args.others.now) c.self.inside.bits _ c.loop-own.own-index c.own-item.result w.in-Some.piece c.loop-own.pieces.items
          c.loop-own-test.true c.own-item.is
          ((rw w.in-Some.is at c.in_ok-piece.ensures.width) ∙ c.requires.width ∙ sym (ap (λ (s : SpaceValue). s.width) c.self.view_is))
          (rw w.in-Some.is at c.in_ok-piece.ensures.some) c.loop-own.invariant)
      | in_default w ↦
          rw w.pieces-is
          (made_skip (is_left c.args.p.now c.args.others.now) c.self.inside.bits _ c.loop-own.own-index c.own-item.result c.loop-own.pieces.items
          c.loop-own-test.true c.own-item.is (rw w.in_default.is at c.in_ok-piece.ensures.none) c.loop-own.invariant)
    ]

pub of_pieces-requires : goal.of_pieces-requires
of_pieces-requires c = record { range = c.self.invariant.range; widths = c.loop-own.invariant.1 }
