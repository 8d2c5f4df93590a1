use Rattle.std.proofs.Common.{◌≡◌, length, sym, ap, subst}
use Rattle.network_model.specs.WellFormed.{FitsOut}
use Rattle.net_types.specs.Rules.{action, numbered}
use Rattle.net_types.proofs.Walks.{moved_on}
use Rattle.net_types.proofs.network.Network.walk.Goals as goal

-- the packet is at the other end of the link
pub loop-preserved : goal.loop-preserved
loop-preserved c =
    let net = c.args.self.now in
    let rule = c.in-Some.rule.now in
    let wide : length c.in-Out.rewrite ≡ net.width = (subst (λ a. FitsOut net rule.«at» (action a)) c.in-Out.is c.in-Some.ensures.fits.out).1 in
    rw c.apply-header.ensures (moved_on net c.args.hops c.args.port c.args.header c.args.path.now c.loop.counter c.loop.port c.loop.header c.loop.path c.add.new.self
    (numbered rule) c.in-Out.out c.in-Out.rewrite c.in-Far.far c.loop.invariant c.loop-test.true
    (sym c.in-Some.ensures.rule) (ap action c.in-Out.is) (sym c.in-Far.ensures) wide c.add.ensures.rules c.add.ensures.room)
