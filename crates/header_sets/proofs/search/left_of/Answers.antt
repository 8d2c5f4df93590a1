use Rattle.std.proofs.Common.{sym, ◌∙◌}
use Rattle.header_sets.proofs.Searching.{left_none, part_of, so_far_apart, so_far_asked, asked_all, whole}
use Rattle.header_sets.proofs.search.left_of.Goals as goal
use Rattle.header_sets.proofs.search.left_of.Goals.{then-meets+in-Some+in_default-only_piece, else-meets}

pub returns-in_default : goal.returns-in_default
returns-in_default c =
    left_none c.args.pattern.now c.other-item.result c.args.others.now c.loop-other.other-index c.loop-other-test.true c.other-item.is
    (sym c.meets.ensures ∙ c.if-meets.true) (sym c.first_asked.ensures ∙ c.in_default.is)

pub returns-in-Some-only_piece : goal.returns-in-Some-only_piece
returns-in-Some-only_piece c =
    part_of c.args.pattern.now c.other-item.result c.args.others.now c.loop-other.other-index c.in-Some-only_piece.part c.loop-other-test.true c.other-item.is
    (sym c.meets.ensures ∙ c.if-meets.true) c.in-Some-only_piece.ensures.some

pub loop-other-preserved : goal.loop-other-preserved
loop-other-preserved c =
    elim c.if-meets.branch [
      | then-meets+in-Some+in_default-only_piece w ↦
          rw w.asked-is
          (so_far_asked c.args.pattern.now c.args.others.now c.loop-other.other-index c.other-item.result c.loop-other.asked w.in-Some.place w.leftmost.result
          c.loop-other-test.true c.other-item.is (sym w.first_asked.ensures ∙ w.in-Some.is) w.leftmost.ensures.one w.leftmost.ensures.below w.leftmost.ensures.so_far c.loop-other.invariant)
      | else-meets w ↦
          rw w.asked-is
          (so_far_apart c.args.pattern.now c.args.others.now c.loop-other.other-index c.other-item.result c.loop-other.asked
          c.loop-other-test.true c.other-item.is (sym c.meets.ensures ∙ w.if-meets.false) c.loop-other.invariant)
    ]

pub returns-in-None : goal.returns-in-None
returns-in-None c =
    whole c.args.pattern.now c.args.others.now c.loop-other.other-index c.loop-other-test.false (rw c.in-None.is at c.loop-other.invariant)

pub returns-in-Some-asked : goal.returns-in-Some-asked
returns-in-Some-asked c =
    asked_all c.args.pattern.now c.args.others.now c.loop-other.other-index c.in-Some-asked.place c.loop-other-test.false (rw c.in-Some-asked.is at c.loop-other.invariant)
