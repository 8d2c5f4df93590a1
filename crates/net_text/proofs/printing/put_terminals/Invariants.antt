use Rattle.std.proofs.Common.{map, drop}
use Rattle.net_text.proofs.Parted.{terminal_declared}
use Rattle.net_text.proofs.Appending.{Appending}
use Rattle.net_text.proofs.printing.put_terminals.Given as goal

-- with the lines that are left, the text has them all
abbrev pub invariant-loop-place : goal.invariant-loop-place
invariant-loop-place l = Appending l.fn.text.items (map terminal_declared l.net.terminals) l.text.items (map terminal_declared (drop l.place l.net.terminals))
