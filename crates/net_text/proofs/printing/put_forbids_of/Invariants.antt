use Rattle.std.proofs.Common.{◌≡◌, Some, map, drop}
use Rattle.network_model.specs.Network.{Terminal, value_at}
use Rattle.net_text.specs.Declarations.{DeclareForbid}
use Rattle.net_text.proofs.Appending.{Appending}
use Rattle.net_text.proofs.printing.put_forbids_of.Given as goal

-- with the lines that are left, the text has them all
abbrev pub invariant-loop-place : goal.invariant-loop-place
invariant-loop-place l = (t : Terminal) → value_at l.net.terminals l.terminal ≡ Some t → Appending l.fn.text.items (map (DeclareForbid l.terminal) t.forbids) l.text.items (map (DeclareForbid l.terminal) (drop l.place t.forbids))
