use Rattle.std.proofs.Common.{map, drop}
use Rattle.net_text.proofs.Parted.{rule_declared}
use Rattle.net_text.proofs.Appending.{Appending}
use Rattle.net_text.proofs.printing.put_rules.Given as goal

-- with the lines that are left, the text has them all
abbrev pub invariant-loop-place : goal.invariant-loop-place
invariant-loop-place l = Appending l.fn.text.items (map rule_declared l.net.rules) l.text.items (map rule_declared (drop l.place l.net.rules))
