use Rattle.std.proofs.Common.{◌∙◌}
use Rattle.net_types.proofs.Lookups.{box_found}
use Rattle.net_types.proofs.Rows.{rises_self}
use Rattle.net_types.proofs.network.Network.has_box.Goals as goal

pub row_of-requires : goal.row_of-requires
row_of-requires c = rw c.deref.ensures.value (rises_self c.self.inside.parts.boxes.items c.self.invariant.well_formed.boxes)

pub returns : goal.returns
returns c = rw (← c.self.view_is, ← c.get.ensures)
    (c.is_some.ensures ∙ box_found c.self.inside.parts.boxes.items c.get.result c.row_of.result (rw c.deref.ensures.value at c.row_of.ensures))
