use Rattle.std.proofs.Common.{◌≡◌, ℕ, ◌∙◌, ap, refl, Option, Some, None, nat_eq}
use Rattle.std.specs.Option.{option_eq}
use Rattle.network_model.specs.Network.{is_at}
use Rattle.net_types.proofs.Maps.{lookup_entries}
use Rattle.net_types.proofs.builder.NetBuilder.has_port_at.Goals as goal

eq_is_at : (o : Option ℕ) (box : ℕ) → option_eq nat_eq o (Some box) ≡ is_at o box
eq_is_at None box = refl
eq_is_at (Some own) box = refl

pub returns : goal.returns
returns c =
    let found = c.copied.ensures ∙ c.get.ensures.value ∙ lookup_entries c.self.inside.ports.entries c.args.id in
    rw (← c.self.view_is)
    (c.eq.ensures ∙ ap (λ o. option_eq nat_eq o (Some c.args.«at»)) found ∙ eq_is_at _ c.args.«at»)
