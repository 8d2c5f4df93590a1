use Rattle.std.proofs.Common.{◌≡◌, ◌≤◌, ◌+◌, ℕ, List, [], length, take, Some, sym, ap, ◌∙◌, subst, arith}
use Rattle.std.specs.Prelude.{slice_get}
use Rattle.std.proofs.lemmas.Option.{slice_get_past}
use Rattle.plan_build.specs.Keeping.{AreChanged}
use Rattle.plan_build.proofs.Parting.{changed_none, one_changed, one_same, changed_all}
use Rattle.plan_build.proofs.rebuilding.changed_boxes.Goals as goal
use Rattle.plan_build.proofs.rebuilding.changed_boxes.Goals.{then-not-box_same+in_ok-push, else-not-box_same}

pub loop-place-init : goal.loop-place-init
loop-place-init c = subst (λ (l : List ℕ). AreChanged c.args.old.now c.args.net.now [] l) (sym c.new-changed.ensures.items) (changed_none c.args.old.now c.args.net.now)

pub loop-place-preserved : goal.loop-place-preserved
loop-place-preserved c =
    let old = c.args.old.now in
    let new = c.args.net.now in
    let i = c.loop-place.place in
    let at : slice_get old.boxes i ≡ Some c.unwrap-at.result = sym c.box_at.ensures ∙ c.unwrap-at.ensures in
    elim c.if-not-box_same.branch [
      | then-not-box_same+in_ok-push w ↦
          subst (λ (l : List ℕ). AreChanged old new (take (i + 1) old.boxes) l) (sym (ap (λ v. v.items) w.changed-is ∙ w.in_ok-push.ensures.items))
          (one_changed old new old.boxes c.loop-place.changed.items i c.unwrap-at.result at c.loop-place.invariant
          (λ same. let held = c.box_same.ensures.1 same in let failed = w.if-not-box_same.true in cc))
      | else-not-box_same w ↦
          subst (λ (l : List ℕ). AreChanged old new (take (i + 1) old.boxes) l) (sym (ap (λ v. v.items) w.changed-is))
          (one_same old new old.boxes c.loop-place.changed.items i c.unwrap-at.result at c.loop-place.invariant (c.box_same.ensures.0 w.if-not-box_same.false))
    ]

pub returns : goal.returns
returns c =
    let boxes = c.args.old.now.boxes in
    let past : length boxes ≤ c.loop-place.place = omega (arith, c.box_count-place-end.ensures.count, c.loop-place-test.false) in
    changed_all c.args.old.now c.args.net.now boxes c.loop-place.changed.items c.loop-place.place (slice_get_past boxes c.loop-place.place past) c.loop-place.invariant
