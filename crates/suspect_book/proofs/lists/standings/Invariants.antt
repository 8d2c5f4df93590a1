use Rattle.suspect_book.specs.Standings.{AreUpTo}
use Rattle.suspect_book.proofs.lists.standings.Given as goal

abbrev pub invariant-loop-row : goal.invariant-loop-row
invariant-loop-row l = AreUpTo l.row l.numbers l.table l.lists.items
