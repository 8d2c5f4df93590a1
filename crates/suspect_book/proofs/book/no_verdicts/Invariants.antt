use Rattle.std.proofs.Common.{◌≡◌, replicate, None}
use Rattle.suspect_book.proofs.book.no_verdicts.Given as goal

abbrev pub invariant-loop-row : goal.invariant-loop-row
invariant-loop-row l = l.verdicts.items ≡ replicate l._row None
