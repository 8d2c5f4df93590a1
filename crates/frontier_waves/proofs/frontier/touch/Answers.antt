use Rattle.std.proofs.Common.{sym, subst}
use Rattle.std.proofs.lemmas.List.{take_all}
use Rattle.frontier_waves.proofs.Touching.{HasJoined, none_joined, more_joined}
use Rattle.frontier_waves.proofs.frontier.touch.Goals as goal

pub loop-at-init : goal.loop-at-init
loop-at-init c = none_joined c.args.touched.now c.args.start

pub loop-at-preserved : goal.loop-at-preserved
loop-at-preserved c =
    let boxes = c.args.boxes.now in
    let i = c.loop-at.at-index in
    more_joined c.args.touched.now c.loop-at.touched c.add.new.self c.args.start boxes i c.at-item.result c.loop-at-test.true (sym c.at-item.is) c.loop-at.invariant c.in_ok-add.ensures.added

pub returns : goal.returns
returns c =
    subst (λ bs. HasJoined c.args.touched.now c.loop-at.touched c.args.start bs) (take_all c.loop-at.at-index c.args.boxes.now c.loop-at-test.false) c.loop-at.invariant
