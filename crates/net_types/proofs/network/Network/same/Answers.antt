use Rattle.std.proofs.Common.{◌≡◌, sym, ap, ◌∙◌}
use Rattle.network_model.specs.Network as model
use Rattle.net_types.specs.declared.network.Network.TheInside.{Inside}
use Rattle.net_types.specs.Parts.{port_of, link_of, terminal_of}
use Rattle.net_types.specs.Tables.{indexed}
use Rattle.net_types.proofs.Sames.{zip_from_list, list_from_zip, zip_from_maps, maps_from_zip, network_same}
use Rattle.net_types.proofs.network.Network.same.Goals as goal

abbrev here : Inside → model.Network
here n = indexed n.parts n.rules.items n.places.items

pub returns-then-not-all_same : goal.returns-then-not-all_same
returns-then-not-all_same c = (
  λ no. absurd (cc),
  λ same.
      let nets : here c.self.inside ≡ here c.other.inside = c.self.view_is ∙ same ∙ sym c.other.view_is in
      let answer = rw (c.deref.ensures.value, c.deref-2.ensures.value) at c.all_same.ensures in
      sym c.if-not-all_same.true ∙ answer.1 (zip_from_list _ _ (ap (λ (net : model.Network). net.boxes) nets)),
)

pub returns-then-not-all_same-2 : goal.returns-then-not-all_same-2
returns-then-not-all_same-2 c = (
  λ no. absurd (cc),
  λ same.
      let nets : here c.self.inside ≡ here c.other.inside = c.self.view_is ∙ same ∙ sym c.other.view_is in
      let answer = rw (c.deref-3.ensures.value, c.deref-4.ensures.value) at c.all_same-2.ensures in
      sym c.if-not-all_same-2.true ∙ answer.1 (zip_from_maps port_of _ _ (ap (λ (net : model.Network). net.ports) nets)),
)

pub returns-then-not-all_same-3 : goal.returns-then-not-all_same-3
returns-then-not-all_same-3 c = (
  λ no. absurd (cc),
  λ same.
      let nets : here c.self.inside ≡ here c.other.inside = c.self.view_is ∙ same ∙ sym c.other.view_is in
      let answer = rw (c.deref-5.ensures.value, c.deref-6.ensures.value) at c.all_same-3.ensures in
      sym c.if-not-all_same-3.true ∙ answer.1 (zip_from_maps link_of _ _ (ap (λ (net : model.Network). net.links) nets)),
)

pub returns-then-not-all_same-4 : goal.returns-then-not-all_same-4
returns-then-not-all_same-4 c = (
  λ no. absurd (cc),
  λ same.
      let nets : here c.self.inside ≡ here c.other.inside = c.self.view_is ∙ same ∙ sym c.other.view_is in
      let answer = rw (c.deref-7.ensures.value, c.deref-8.ensures.value) at c.all_same-4.ensures in
      sym c.if-not-all_same-4.true ∙ answer.1 (zip_from_maps terminal_of _ _ (ap (λ (net : model.Network). net.terminals) nets)),
)

pub returns : goal.returns
returns c =
    let boxes = rw (c.deref.ensures.value, c.deref-2.ensures.value) at c.all_same.ensures in
    let ports = rw (c.deref-3.ensures.value, c.deref-4.ensures.value) at c.all_same-2.ensures in
    let links = rw (c.deref-5.ensures.value, c.deref-6.ensures.value) at c.all_same-3.ensures in
    let terminals = rw (c.deref-7.ensures.value, c.deref-8.ensures.value) at c.all_same-4.ensures in (
      λ holds. sym c.self.view_is ∙ network_same (here c.self.inside) (here c.other.inside) c.if-mine-theirs.false
          (list_from_zip _ _ (boxes.0 c.if-not-all_same.false))
          (maps_from_zip port_of _ _ (ports.0 c.if-not-all_same-2.false))
          (maps_from_zip link_of _ _ (links.0 c.if-not-all_same-3.false))
          (maps_from_zip terminal_of _ _ (terminals.0 c.if-not-all_same-4.false))
          (ap (λ (net : model.Network). net.rules) c.self.view_is ∙ c.same_by_number.ensures.0 holds ∙ sym (ap (λ (net : model.Network). net.rules) c.other.view_is)) ∙ c.other.view_is,
      λ same. c.same_by_number.ensures.1 (ap (λ (net : model.Network). net.rules) same),
    )
