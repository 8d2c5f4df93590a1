use Rattle.std.proofs.Common.{arith}
use Rattle.net_types.proofs.Steps.{box_shown, box_built}
use Rattle.net_types.proofs.builder.NetBuilder.add_box.Goals as goal

pub invariant_of-self-2 : goal.invariant_of-self-2
invariant_of-self-2 c =
    box_built c.self.inside _ c.args.id c.insert.new.self c.self.view_is (grind (arith)) c.in_ok-insert.ensures.keys (omega arith) c.self.invariant

pub returns-clause-ok : goal.returns-clause-ok
returns-clause-ok c = box_shown c.self.inside _ c.args.id c.insert.new.self c.self.view_is (grind (arith)) c.in_ok-insert.ensures.keys
