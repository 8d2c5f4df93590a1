use Rattle.std.proofs.Common.{map, drop}
use Rattle.net_text.proofs.Parted.{port_declared}
use Rattle.net_text.proofs.Appending.{Appending}
use Rattle.net_text.proofs.printing.put_ports.Given as goal

-- with the lines that are left, the text has them all
abbrev pub invariant-loop-place : goal.invariant-loop-place
invariant-loop-place l = Appending l.fn.text.items (map port_declared l.net.ports) l.text.items (map port_declared (drop l.place l.net.ports))
