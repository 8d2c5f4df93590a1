use Rattle.std.proofs.Common.{ℕ, Bool, take}
use Rattle.std.specs.List.{filter}
use Rattle.suspect_book.specs.Fewness.{IsFew}
use Rattle.suspect_book.specs.Marked.{TellsLeft}
use Rattle.suspect_book.proofs.marks.few_left.Given as goal

abbrev pub invariant-loop-rule : goal.invariant-loop-rule
invariant-loop-rule l = (test : ℕ → Bool) → TellsLeft l.numbers test l.marks l.cleared → IsFew (filter test (take l.rule-index l.rules)) l.few
