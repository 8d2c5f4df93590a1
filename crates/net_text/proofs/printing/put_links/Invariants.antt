use Rattle.std.proofs.Common.{drop}
use Rattle.net_text.specs.Printing.{links_of}
use Rattle.net_text.proofs.Appending.{Appending}
use Rattle.net_text.proofs.printing.put_links.Given as goal

-- with the lines that are left, the text has them all
abbrev pub invariant-loop-place : goal.invariant-loop-place
invariant-loop-place l = Appending l.fn.text.items (links_of l.net.links) l.text.items (links_of (drop l.place l.net.links))
