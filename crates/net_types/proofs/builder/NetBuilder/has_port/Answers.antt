use Rattle.std.proofs.Common.{◌∙◌, ap}
use Rattle.std.specs.Prelude.{is_some}
use Rattle.net_types.proofs.Maps.{lookup_entries}
use Rattle.net_types.proofs.builder.NetBuilder.has_port.Goals as goal

pub returns : goal.returns
returns c = rw (← c.self.view_is) (c.contains_key.ensures ∙ ap is_some (lookup_entries c.self.inside.ports.entries c.args.id))
