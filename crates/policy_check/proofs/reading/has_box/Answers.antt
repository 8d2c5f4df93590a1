use Rattle.std.proofs.Common.{◌≡◌, Some, sym, ◌∙◌, arith}
use Rattle.std.specs.List.{slice_get}
use Rattle.std.proofs.lemmas.Bool.{eqb-true, eqb-false}
use Rattle.policy_check.proofs.Boxes.{box_there, box_not_yet}
use Rattle.policy_check.proofs.reading.has_box.Goals as goal

pub returns-then-eq : goal.returns-then-eq
returns-then-eq c =
    let boxes = c.args.net.now.boxes in
    let at = c.unwrap-at.result in
    let here : Some at ≡ slice_get boxes c.loop-place.place = sym c.unwrap-at.ensures ∙ c.box_at.ensures in
    let same : at ≡ c.args.asked = eqb-true _ _ (sym c.eq.ensures ∙ c.if-eq.true) in
    sym (box_there boxes c.loop-place.place c.args.asked (rw (sym same) here))

pub loop-place-preserved : goal.loop-place-preserved
loop-place-preserved c =
    let boxes = c.args.net.now.boxes in
    let here : Some c.unwrap-at.result ≡ slice_get boxes c.loop-place.place = sym c.unwrap-at.ensures ∙ c.box_at.ensures in
    box_not_yet boxes c.loop-place.place c.args.asked c.unwrap-at.result (omega (arith, c.loop-place-test.true, c.box_count-place-end.ensures.count)) here
    (eqb-false _ _ (sym c.eq.ensures ∙ c.if-eq.false)) c.loop-place.invariant
