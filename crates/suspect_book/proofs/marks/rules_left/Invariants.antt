use Rattle.std.proofs.Common.{◌≡◌, ℕ, Bool, take}
use Rattle.std.specs.List.{filter}
use Rattle.suspect_book.specs.Marked.{TellsLeft}
use Rattle.suspect_book.proofs.marks.rules_left.Given as goal

abbrev pub invariant-loop-place : goal.invariant-loop-place
invariant-loop-place l = (test : ℕ → Bool) → TellsLeft l.numbers test l.marks l.cleared → l.list ≡ filter test (take l.place l.numbers)
