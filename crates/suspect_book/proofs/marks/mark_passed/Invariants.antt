use Rattle.std.proofs.Common.{◌≡◌, ℕ, Bool, ◌||◌, length, take}
use Rattle.fault_model.specs.Outcomes.{has}
use Rattle.suspect_book.specs.Marked.{Tells}
use Rattle.suspect_book.proofs.marks.mark_passed.Given as goal

abbrev pub invariant-loop-rule : goal.invariant-loop-rule
invariant-loop-rule l = record {
  told : (test : ℕ → Bool) → Tells l.numbers test l.initial.sheet.passed → Tells l.numbers (λ r. has (take l.rule-index l.rules) r || test r) l.sheet.passed;
  room : length l.sheet.passed ≡ length l.initial.sheet.passed;
  stays : l.sheet ≡ record l.initial.sheet { passed = l.sheet.passed };
}
