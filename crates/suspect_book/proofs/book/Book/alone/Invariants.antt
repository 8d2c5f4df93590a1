use Rattle.std.proofs.Common.{◌≡◌, length}
use Rattle.std.specs.List.{list_any, range_with_len}
use Rattle.rule_cover.specs.Places.{numbers_of}
use Rattle.suspect_book.specs.Marked.{Tells, is_lone}
use Rattle.suspect_book.specs.Verdicts.{outcomes}
use Rattle.suspect_book.proofs.book.Book.alone.Given as goal

abbrev pub invariant-loop-row : goal.invariant-loop-row
invariant-loop-row l = record {
  room : length l.marks.items ≡ length (numbers_of l.self.plan.net);
  told : Tells (numbers_of l.self.plan.net) (λ r. list_any (λ n. is_lone l.self.plan.plan.table (outcomes l.self.verdicts) n r) (range_with_len 1 l.row)) l.marks.items;
}
