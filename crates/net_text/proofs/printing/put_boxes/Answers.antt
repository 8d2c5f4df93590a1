use Rattle.std.proofs.Common.{map, ◌∙◌, sym, arith}
use Rattle.net_text.specs.Declarations.{DeclareBox}
use Rattle.net_text.proofs.Appending.{Appending-step, Appending-ended}
use Rattle.net_text.proofs.printing.put_boxes.Goals as goal

pub loop-place-preserved : goal.loop-place-preserved
loop-place-preserved c =
    let boxes = c.args.net.now.boxes in
    Appending-step DeclareBox boxes c.loop-place.place c.unwrap.result c.args.text.now.items (map DeclareBox boxes) _ _
    (sym c.box_at.ensures ∙ c.unwrap.ensures) c.loop-place.invariant c.in_ok-put_box.ensures

pub returns : goal.returns
returns c =
    let boxes = c.args.net.now.boxes in
    Appending-ended DeclareBox boxes c.loop-place.place c.args.text.now.items (map DeclareBox boxes) c.loop-place.text.items (omega (arith, c.box_count-place-end.ensures.count)) c.loop-place.invariant
