use Rattle.net_types.specs.Parts.{port_of}
use Rattle.net_types.proofs.Finds.{looked_up}
use Rattle.net_types.proofs.Rows.{rises_rows}
use Rattle.net_types.proofs.network.Network.port_row.Goals as goal

pub row_of-requires : goal.row_of-requires
row_of-requires c = rw c.deref.ensures.value (rises_rows port_of c.self.inside.parts.ports.items c.self.invariant.well_formed.ports)

pub returns : goal.returns
returns c = rw (← c.self.view_is, ← c.get.ensures) (looked_up port_of c.self.inside.parts.ports.items c.get.result _ (rw c.deref.ensures.value at c.row_of.ensures))
