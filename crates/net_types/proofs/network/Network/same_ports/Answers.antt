use Rattle.std.proofs.Common.{sym, ◌∙◌}
use Rattle.net_types.specs.Parts.{port_of}
use Rattle.net_types.proofs.Sames.{maps_from_zip, zip_from_maps}
use Rattle.net_types.proofs.SameParts.{same_ports, port_lists}
use Rattle.net_types.proofs.network.Network.same_ports.Goals as goal

pub returns : goal.returns
returns c =
    let mine = c.args.self.now.ports in
    let theirs = c.args.other.now.ports in
    let here = c.ports_at.ensures in
    let there = c.ports_at-2.ensures in (
      λ holds. same_ports c.args.b mine theirs here.rises there.rises
          (sym here.ports ∙ maps_from_zip port_of _ _ (c.all_same.ensures.0 holds) ∙ there.ports),
      λ each. c.all_same.ensures.1 (zip_from_maps port_of _ _
          (here.ports ∙ port_lists c.args.b mine theirs here.rises there.rises each ∙ sym there.ports)),
    )
