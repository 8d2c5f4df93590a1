use Rattle.std.proofs.Common.{◌≡◌, ◌∙◌, sym, ap, length}
use Rattle.std.proofs.lemmas.List.Elements.{All-push}
use Rattle.network_model.specs.Bits.{Pattern}
use Rattle.header_sets.proofs.Narrowing.{pushed_more, pushed_none}
use Rattle.header_sets.proofs.piece.push_meeting.Goals as goal
use Rattle.header_sets.proofs.piece.push_meeting.Goals.{then-meets+in_ok-push, else-meets}

pub loop-other-preserved : goal.loop-other-preserved
loop-other-preserved c =
    elim c.if-meets.branch [
      | then-meets+in_ok-push w ↦
          rw (w.kept-is, w.in_ok-push.ensures.items)
          (record {
            matched = pushed_more c.args.pattern.now c.args.kept.now.items c.args.others.now c.loop-other.kept.items c.loop-other.other-index c.other-item.result
                c.loop-other-test.true c.other-item.is c.loop-other.invariant.matched;
            widths = λ before. All-push (λ (other : Pattern). length other ≡ length c.args.pattern.now) c.loop-other.kept.items c.other-item.result (c.loop-other.invariant.widths before)
                (ap length c.other-item.is ∙ c.requires c.loop-other.other-index c.other-item.result c.loop-other-test.true);
          })
      | else-meets w ↦
          rw w.kept-is
          (record {
            matched = pushed_none c.args.pattern.now c.args.kept.now.items c.args.others.now c.loop-other.kept.items c.loop-other.other-index c.other-item.result
                c.loop-other-test.true c.other-item.is (sym c.meets.ensures ∙ w.if-meets.false) c.loop-other.invariant.matched;
            widths = c.loop-other.invariant.widths;
          })
    ]
