use Rattle.std.proofs.Common.{arith}
use Rattle.net_types.specs.Tables.{lowered}
use Rattle.net_types.proofs.Placed.{none_done, one_done, all_done}
use Rattle.net_types.proofs.network.places.lower.Goals as goal

pub loop-i-init : goal.loop-i-init
loop-i-init c = none_done (lowered c.args.gap) c.args.places.now

pub loop-i-preserved : goal.loop-i-preserved
loop-i-preserved c =
    rw (c.lowered.ensures, ← c.index-places-i.is)
    (one_done (lowered c.args.gap) c.args.places.now c.loop-i.places c.loop-i.i c.index-places-i.result c.loop-i.invariant (omega arith) c.index-places-i.is)

pub returns : goal.returns
returns c = all_done (lowered c.args.gap) c.args.places.now c.loop-i.places c.loop-i.i c.loop-i.invariant c.loop-i-test.false
