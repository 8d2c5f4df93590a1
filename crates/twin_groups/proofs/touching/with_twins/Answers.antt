use Rattle.std.proofs.Common.{sym, subst}
use Rattle.std.proofs.lemmas.List.{take_all}
use Rattle.twin_groups.proofs.Joins.{HasTwins, twin_more}
use Rattle.twin_groups.proofs.touching.with_twins.Goals as goal

pub loop-twin-preserved : goal.loop-twin-preserved
loop-twin-preserved c =
    twin_more c.args.touched c.loop-twin.all c.add_twin.new.all c.args.net.now.boxes c.args.twins.now c.loop-twin.twin-index c.twin-item.result c.loop-twin-test.true (sym c.twin-item.is)
    c.loop-twin.invariant c.in_ok-add_twin.ensures

pub returns : goal.returns
returns c =
    subst (λ ts. HasTwins c.args.touched c.loop-twin.all c.args.net.now.boxes ts) (take_all c.loop-twin.twin-index c.args.twins.now c.loop-twin-test.false) c.loop-twin.invariant
