use Rattle.std.proofs.Common.{◌≡◌, ◌+◌}
use Rattle.network_model.specs.Building.{with_permit}
use Rattle.net_grow.specs.Places.{places}
use Rattle.net_grow.proofs.Edges.{own_box_due, own_box_made, outer_due, outer_made, inner_due, inner_made, far_due, far_made, joined_due, joined_made, placed_due, placed_made, permitted_due, edge_done}
use Rattle.net_grow.proofs.Answers.{taken_then}
use Rattle.net_grow.proofs.places.add_edge.Goals as goal

pub taken-requires : goal.taken-requires
taken-requires c =
    own_box_due c.args.edge c.of.result c.args.net.now c.add_box.result c.requires.edge c.of.ensures c.requires.before c.add_box.ensures.answer

pub taken-requires-2 : goal.taken-requires-2
taken-requires-2 c =
    let own_box = own_box_made c.args.edge c.of.result c.args.net.now c.add_box.new.self c.add_box.result c.in_ok-taken.field-0 c.of.ensures c.requires.before c.in_ok-taken.ensures c.add_box.ensures.ok in
    outer_due c.args.edge c.of-outer.result c.of-2.result c.add_box.new.self c.add_port.result c.requires.edge c.of-outer.ensures c.of-2.ensures own_box c.add_port.ensures.answer

pub taken-requires-3 : goal.taken-requires-3
taken-requires-3 c =
    let own_box = own_box_made c.args.edge c.of.result c.args.net.now c.add_box.new.self c.add_box.result c.in_ok-taken.field-0 c.of.ensures c.requires.before c.in_ok-taken.ensures c.add_box.ensures.ok in
    let outer = outer_made c.args.edge c.of-outer.result c.of-2.result c.add_box.new.self c.add_port.new.self c.add_port.result c.in_ok-taken-2.field-0 c.of-outer.ensures c.of-2.ensures own_box c.in_ok-taken-2.ensures c.add_port.ensures.ok in
    inner_due c.args.edge c.of-inner.result c.of-3.result c.add_port.new.self c.add_port-2.result c.requires.edge c.of-inner.ensures c.of-3.ensures outer c.add_port-2.ensures.answer

pub taken-requires-4 : goal.taken-requires-4
taken-requires-4 c =
    let own_box = own_box_made c.args.edge c.of.result c.args.net.now c.add_box.new.self c.add_box.result c.in_ok-taken.field-0 c.of.ensures c.requires.before c.in_ok-taken.ensures c.add_box.ensures.ok in
    let outer = outer_made c.args.edge c.of-outer.result c.of-2.result c.add_box.new.self c.add_port.new.self c.add_port.result c.in_ok-taken-2.field-0 c.of-outer.ensures c.of-2.ensures own_box c.in_ok-taken-2.ensures c.add_port.ensures.ok in
    let inner = inner_made c.args.edge c.of-inner.result c.of-3.result c.add_port.new.self c.add_port-2.new.self c.add_port-2.result c.in_ok-taken-3.field-0 c.of-inner.ensures c.of-3.ensures outer c.in_ok-taken-3.ensures c.add_port-2.ensures.ok in
    far_due c.args.edge c.of-far.result c.of-4.result c.add_port-2.new.self c.add_port-3.result c.requires.edge c.of-far.ensures c.of-4.ensures inner c.add_port-3.ensures.answer

pub taken-requires-5 : goal.taken-requires-5
taken-requires-5 c =
    let own_box = own_box_made c.args.edge c.of.result c.args.net.now c.add_box.new.self c.add_box.result c.in_ok-taken.field-0 c.of.ensures c.requires.before c.in_ok-taken.ensures c.add_box.ensures.ok in
    let outer = outer_made c.args.edge c.of-outer.result c.of-2.result c.add_box.new.self c.add_port.new.self c.add_port.result c.in_ok-taken-2.field-0 c.of-outer.ensures c.of-2.ensures own_box c.in_ok-taken-2.ensures c.add_port.ensures.ok in
    let inner = inner_made c.args.edge c.of-inner.result c.of-3.result c.add_port.new.self c.add_port-2.new.self c.add_port-2.result c.in_ok-taken-3.field-0 c.of-inner.ensures c.of-3.ensures outer c.in_ok-taken-3.ensures c.add_port-2.ensures.ok in
    let far = far_made c.args.edge c.of-far.result c.of-4.result c.add_port-2.new.self c.add_port-3.new.self c.add_port-3.result c.in_ok-taken-4.field-0 c.of-far.ensures c.of-4.ensures inner c.in_ok-taken-4.ensures c.add_port-3.ensures.ok in
    joined_due c.args.edge c.of-inner.result c.of-far.result c.add_port-3.new.self c.add_link.result c.requires.edge c.of-inner.ensures c.of-far.ensures far c.add_link.ensures.answer

pub taken-requires-6 : goal.taken-requires-6
taken-requires-6 c =
    let own_box = own_box_made c.args.edge c.of.result c.args.net.now c.add_box.new.self c.add_box.result c.in_ok-taken.field-0 c.of.ensures c.requires.before c.in_ok-taken.ensures c.add_box.ensures.ok in
    let outer = outer_made c.args.edge c.of-outer.result c.of-2.result c.add_box.new.self c.add_port.new.self c.add_port.result c.in_ok-taken-2.field-0 c.of-outer.ensures c.of-2.ensures own_box c.in_ok-taken-2.ensures c.add_port.ensures.ok in
    let inner = inner_made c.args.edge c.of-inner.result c.of-3.result c.add_port.new.self c.add_port-2.new.self c.add_port-2.result c.in_ok-taken-3.field-0 c.of-inner.ensures c.of-3.ensures outer c.in_ok-taken-3.ensures c.add_port-2.ensures.ok in
    let far = far_made c.args.edge c.of-far.result c.of-4.result c.add_port-2.new.self c.add_port-3.new.self c.add_port-3.result c.in_ok-taken-4.field-0 c.of-far.ensures c.of-4.ensures inner c.in_ok-taken-4.ensures c.add_port-3.ensures.ok in
    let joined = joined_made c.args.edge c.of-inner.result c.of-far.result c.add_port-3.new.self c.add_link.new.self c.add_link.result c.in_ok-taken-5.field-0 c.of-inner.ensures c.of-far.ensures far c.in_ok-taken-5.ensures c.add_link.ensures.ok in
    placed_due c.args.edge c.of-terminal.result c.of-outer.result c.add_link.new.self c.add_term.result c.requires.edge c.of-terminal.ensures c.of-outer.ensures joined c.add_term.ensures.answer

pub taken-requires-7 : goal.taken-requires-7
taken-requires-7 c =
    let own_box = own_box_made c.args.edge c.of.result c.args.net.now c.add_box.new.self c.add_box.result c.in_ok-taken.field-0 c.of.ensures c.requires.before c.in_ok-taken.ensures c.add_box.ensures.ok in
    let outer = outer_made c.args.edge c.of-outer.result c.of-2.result c.add_box.new.self c.add_port.new.self c.add_port.result c.in_ok-taken-2.field-0 c.of-outer.ensures c.of-2.ensures own_box c.in_ok-taken-2.ensures c.add_port.ensures.ok in
    let inner = inner_made c.args.edge c.of-inner.result c.of-3.result c.add_port.new.self c.add_port-2.new.self c.add_port-2.result c.in_ok-taken-3.field-0 c.of-inner.ensures c.of-3.ensures outer c.in_ok-taken-3.ensures c.add_port-2.ensures.ok in
    let far = far_made c.args.edge c.of-far.result c.of-4.result c.add_port-2.new.self c.add_port-3.new.self c.add_port-3.result c.in_ok-taken-4.field-0 c.of-far.ensures c.of-4.ensures inner c.in_ok-taken-4.ensures c.add_port-3.ensures.ok in
    let joined = joined_made c.args.edge c.of-inner.result c.of-far.result c.add_port-3.new.self c.add_link.new.self c.add_link.result c.in_ok-taken-5.field-0 c.of-inner.ensures c.of-far.ensures far c.in_ok-taken-5.ensures c.add_link.ensures.ok in
    let placed = placed_made c.args.edge c.of-terminal.result c.of-outer.result c.add_link.new.self c.add_term.new.self c.add_term.result c.in_ok-taken-6.field-0 c.of-terminal.ensures c.of-outer.ensures joined c.in_ok-taken-6.ensures c.add_term.ensures.ok in
    permitted_due c.args.edge c.of-terminal.result c.any_header.result c.add_term.new.self c.permit.result c.requires.edge c.of-terminal.ensures c.any_header.ensures placed c.permit.ensures.answer

pub returns : goal.returns
returns c =
    let own_box = own_box_made c.args.edge c.of.result c.args.net.now c.add_box.new.self c.add_box.result c.in_ok-taken.field-0 c.of.ensures c.requires.before c.in_ok-taken.ensures c.add_box.ensures.ok in
    let outer = outer_made c.args.edge c.of-outer.result c.of-2.result c.add_box.new.self c.add_port.new.self c.add_port.result c.in_ok-taken-2.field-0 c.of-outer.ensures c.of-2.ensures own_box c.in_ok-taken-2.ensures c.add_port.ensures.ok in
    let inner = inner_made c.args.edge c.of-inner.result c.of-3.result c.add_port.new.self c.add_port-2.new.self c.add_port-2.result c.in_ok-taken-3.field-0 c.of-inner.ensures c.of-3.ensures outer c.in_ok-taken-3.ensures c.add_port-2.ensures.ok in
    let far = far_made c.args.edge c.of-far.result c.of-4.result c.add_port-2.new.self c.add_port-3.new.self c.add_port-3.result c.in_ok-taken-4.field-0 c.of-far.ensures c.of-4.ensures inner c.in_ok-taken-4.ensures c.add_port-3.ensures.ok in
    let joined = joined_made c.args.edge c.of-inner.result c.of-far.result c.add_port-3.new.self c.add_link.new.self c.add_link.result c.in_ok-taken-5.field-0 c.of-inner.ensures c.of-far.ensures far c.in_ok-taken-5.ensures c.add_link.ensures.ok in
    let placed = placed_made c.args.edge c.of-terminal.result c.of-outer.result c.add_link.new.self c.add_term.new.self c.add_term.result c.in_ok-taken-6.field-0 c.of-terminal.ensures c.of-outer.ensures joined c.in_ok-taken-6.ensures c.add_term.ensures.ok in
    taken_then (c.permit.new.self ≡ with_permit c.of-terminal.result c.any_header.result c.add_term.new.self) (c.permit.new.self ≡ places (c.args.edge + 1)) c.permit.result c.taken-7.result c.taken-7.ensures c.permit.ensures.ok
    (edge_done c.args.edge c.of-terminal.result c.any_header.result c.add_term.new.self c.permit.new.self c.requires.edge c.of-terminal.ensures c.any_header.ensures placed)
