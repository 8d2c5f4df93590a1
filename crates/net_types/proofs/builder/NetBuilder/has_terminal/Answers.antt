use Rattle.std.proofs.Common.{◌∙◌, sym}
use Rattle.net_types.specs.Built.{terminal_model}
use Rattle.net_types.proofs.Maps.{lookup_in}
use Rattle.net_types.proofs.builder.NetBuilder.has_terminal.Goals as goal

pub returns : goal.returns
returns c = rw (← c.self.view_is) (c.contains_key.ensures ∙ sym (lookup_in terminal_model c.self.inside.terminals.entries c.args.id))
