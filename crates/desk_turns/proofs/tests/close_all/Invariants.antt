use Rattle.std.proofs.Common.{◌≡◌, ◌+◌, vec_len, length}
use Rattle.std.specs.List.{All}
use Rattle.desk_turns.proofs.tests.close_all.Given as goal

abbrev pub invariant-loop-answer : goal.invariant-loop-answer
invariant-loop-answer l =
    (goal.iterator-loop-answer).can_next l.answer-iterator ×
    (goal.iterator-loop-answer).is_finite l.answer-iterator
    × (vec_len l.passes + length l.answer-iterator.rest.items ≡ l.fn.desk.seats)
    × All (λ p. p.desk.table ≡ l.fn.desk.table) l.passes.items
    × All (λ a. a.0.desk.table ≡ l.fn.desk.table) l.answer-iterator.rest.items
