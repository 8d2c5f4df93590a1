use Rattle.std.proofs.lemmas.List.Elements.{All-push}
use Rattle.box_step.specs.Guides.{IsGuide}
use Rattle.box_step.proofs.overlaps.guides_of.Goals as goal
use Rattle.box_step.proofs.overlaps.guides_of.Goals.{in-Some+then-rules_at-ge-GUIDED+in_ok-guide_of+in_ok-push, in-Some+else-rules_at-ge-GUIDED, in_default}

pub loop-place-preserved : goal.loop-place-preserved
loop-place-preserved c =
    elim c.match-box_at.branch [
      | in-Some+then-rules_at-ge-GUIDED+in_ok-guide_of+in_ok-push w ↦
          rw (w.guides-is, w.in_ok-push.ensures.items) (All-push (IsGuide c.args.net.now) c.loop-place.guides.items _ c.loop-place.invariant w.in_ok-guide_of.ensures.guide)
      | in-Some+else-rules_at-ge-GUIDED w ↦ rw w.guides-is c.loop-place.invariant
      | in_default w ↦ rw w.guides-is c.loop-place.invariant
    ]
