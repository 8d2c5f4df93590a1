use Rattle.std.proofs.Common.{ap, ◌∙◌}
use Rattle.std.specs.Option.{option_map}
use Rattle.net_types.specs.declared.network.Receiver.{Receiver}
use Rattle.net_types.proofs.Receivers.{receiver_found}
use Rattle.net_types.proofs.network.Network.receiver_row.Goals as goal

pub row_of-requires : goal.row_of-requires
row_of-requires c = rw c.deref.ensures.value c.self.invariant.by_port.rises

pub returns : goal.returns
returns c =
    rw (← c.self.view_is, ← c.get.ensures) (ap (option_map (λ (r : Receiver). r.term)) (rw c.deref.ensures.value at c.row_of.ensures)
    ∙ receiver_found c.get.result c.self.inside.parts.terminals.items c.self.inside.receivers.items c.self.invariant.by_port)
