use Rattle.std.proofs.Common.{map, drop}
use Rattle.net_text.specs.Declarations.{DeclareBox}
use Rattle.net_text.proofs.Appending.{Appending}
use Rattle.net_text.proofs.printing.put_boxes.Given as goal

-- with the lines that are left, the text has them all
abbrev pub invariant-loop-place : goal.invariant-loop-place
invariant-loop-place l = Appending l.fn.text.items (map DeclareBox l.net.boxes) l.text.items (map DeclareBox (drop l.place l.net.boxes))
