use Rattle.std.proofs.Common.{◌∙◌, sym, arith}
use Rattle.net_types.proofs.Steps.{port_shown, port_built}
use Rattle.net_types.proofs.builder.NetBuilder.add_port.Goals as goal

pub invariant_of-self-2 : goal.invariant_of-self-2
invariant_of-self-2 c =
    port_built c.self.inside _ c.args.id c.args.«at» c.insert.new.self c.self.view_is (sym c.has_port.ensures ∙ c.if-has_port.false)
    c.in_ok-insert.ensures.entries (sym c.has_box.ensures ∙ c.if-not-has_box.false) (omega arith) c.self.invariant

pub returns-clause-ok : goal.returns-clause-ok
returns-clause-ok c =
    port_shown c.self.inside _ c.args.id c.args.«at» c.insert.new.self c.self.view_is (sym c.has_port.ensures ∙ c.if-has_port.false)
    c.in_ok-insert.ensures.entries
