use Rattle.std.proofs.Common.{◌≡◌, [], replicate}
use Rattle.suspect_book.proofs.lists.no_entries.Given as goal

abbrev pub invariant-loop-place : goal.invariant-loop-place
invariant-loop-place l = l.lists.items ≡ replicate l._place []
