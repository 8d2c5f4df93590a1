use Rattle.std.proofs.Common.{◌∙◌}
use Rattle.net_types.specs.Tables.{at_places}
use Rattle.net_types.proofs.Changes.{copy_indexed, copy_network}
use Rattle.net_types.proofs.network.Network.copy.Goals as goal

pub invariant_of-result : goal.invariant_of-result
invariant_of-result c =
    rw (c.in_ok-from_slice.ensures.items, c.deref.ensures.value, c.in_ok-from_slice-2.ensures.items, c.deref-2.ensures.value, c.in_ok-from_slice-3.ensures.items, c.deref-3.ensures.value, c.in_ok-from_slice-4.ensures.items, c.deref-4.ensures.value)
    (copy_indexed c.self.inside.parts c.in_ok-copy_parts.field-0 c.self.inside.rules.items c.self.inside.places.items c.self.inside.receivers.items c.self.inside.ports_by_box.items c.in_ok-copy_parts.ensures c.self.invariant)

pub returns : goal.returns
returns c =
    rw (c.in_ok-from_slice.ensures.items, c.deref.ensures.value, c.in_ok-from_slice-2.ensures.items, c.deref-2.ensures.value)
    (copy_network c.self.inside.parts c.in_ok-copy_parts.field-0 (at_places c.self.inside.rules.items c.self.inside.places.items) c.in_ok-copy_parts.ensures ∙ c.self.view_is)
