use Rattle.std.proofs.Common.{◌≡◌, map, take}
use Rattle.net_types.specs.Parts.{terminal_of}
use Rattle.net_types.proofs.network.copy.copy_terminals.Given as goal

abbrev pub invariant-loop-terminal : goal.invariant-loop-terminal
invariant-loop-terminal l = map terminal_of l.copies.items ≡ map terminal_of (take l.terminal-index l.terminals)
