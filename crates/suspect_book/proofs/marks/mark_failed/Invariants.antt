use Rattle.std.proofs.Common.{◌≡◌, ℕ, Bool, ◌||◌, length, take}
use Rattle.fault_model.specs.Outcomes.{has}
use Rattle.suspect_book.specs.Marked.{Tells}
use Rattle.suspect_book.proofs.marks.mark_failed.Given as goal

abbrev pub invariant-loop-rule : goal.invariant-loop-rule
invariant-loop-rule l = record {
  told : (test : ℕ → Bool) → Tells l.numbers test l.initial.sheet.failed → Tells l.numbers (λ r. has (take l.rule-index l.rules) r || test r) l.sheet.failed;
  room : length l.sheet.failed ≡ length l.initial.sheet.failed;
  stays : l.sheet ≡ record l.initial.sheet { failed = l.sheet.failed };
}
