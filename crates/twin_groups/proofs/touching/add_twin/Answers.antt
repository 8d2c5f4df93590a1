use Rattle.std.proofs.Common.{◌∙◌, ◌≤◌, length, sym, subst, arith}
use Rattle.std.proofs.lemmas.List.{take_all}
use Rattle.twin_groups.proofs.Joins.{HasBoxes, box_more}
use Rattle.twin_groups.proofs.touching.add_twin.Goals as goal

pub loop-place-preserved : goal.loop-place-preserved
loop-place-preserved c =
    box_more c.args.touched.now c.args.all.now c.loop-place.all c.add_box.new.all c.args.first c.args.other c.args.net.now.boxes c.loop-place.place c.unwrap-at.result
    (sym c.box_at.ensures ∙ c.unwrap-at.ensures) c.loop-place.invariant c.in_ok-add_box.ensures

pub returns : goal.returns
returns c =
    let boxes = c.args.net.now.boxes in
    let past : length boxes ≤ c.loop-place.place = omega (arith, c.box_count-place-end.ensures.count, c.loop-place-test.false) in
    subst (λ bs. HasBoxes c.args.touched.now c.args.all.now c.loop-place.all c.args.first c.args.other bs) (take_all c.loop-place.place boxes past) c.loop-place.invariant
