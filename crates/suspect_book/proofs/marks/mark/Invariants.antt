use Rattle.std.proofs.Common.{ℕ, Bool, ◌||◌, take}
use Rattle.fault_model.specs.Outcomes.{has}
use Rattle.suspect_book.specs.Marked.{Tells}
use Rattle.suspect_book.proofs.marks.mark.Given as goal

abbrev pub invariant-loop-rule : goal.invariant-loop-rule
invariant-loop-rule l = (test : ℕ → Bool) → Tells l.numbers test l.initial.marks → Tells l.numbers (λ r. has (take l.rule-index l.rules) r || test r) l.marks
