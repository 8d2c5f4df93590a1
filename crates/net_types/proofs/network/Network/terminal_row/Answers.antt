use Rattle.net_types.specs.Parts.{terminal_of}
use Rattle.net_types.proofs.Finds.{looked_up}
use Rattle.net_types.proofs.Rows.{rises_rows}
use Rattle.net_types.proofs.network.Network.terminal_row.Goals as goal

pub row_of-requires : goal.row_of-requires
row_of-requires c = rw c.deref.ensures.value (rises_rows terminal_of c.self.inside.parts.terminals.items c.self.invariant.well_formed.terminals)

pub returns : goal.returns
returns c = rw (← c.self.view_is, ← c.get.ensures) (looked_up terminal_of c.self.inside.parts.terminals.items c.get.result _ (rw c.deref.ensures.value at c.row_of.ensures))
