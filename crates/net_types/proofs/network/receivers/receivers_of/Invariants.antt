use Rattle.std.proofs.Common.{◌≡◌, take}
use Rattle.std.specs.List.{filter_map}
use Rattle.net_types.specs.Tables.{receiving}
use Rattle.net_types.proofs.network.receivers.receivers_of.Given as goal

abbrev pub invariant-loop-terminal : goal.invariant-loop-terminal
invariant-loop-terminal l = l.receivers.items ≡ filter_map receiving (take l.terminal-index l.terminals)
