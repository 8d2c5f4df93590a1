use Rattle.std.proofs.Common.{◌≡◌, drop, length}
use Rattle.std.specs.List.{find, range_with_len}
use Rattle.fault_model.specs.Findings.{is_odd, odd}
use Rattle.suspect_book.specs.Verdicts.{outcomes}
use Rattle.suspect_book.proofs.book.Book.odd.Given as goal

abbrev pub invariant-loop-row : goal.invariant-loop-row
invariant-loop-row l =
    odd l.self.plan.plan.table (outcomes l.self.verdicts)
    ≡ find (is_odd l.self.plan.plan.table (outcomes l.self.verdicts)) (drop l.row (range_with_len 1 (length l.self.plan.plan.table)))
