use Rattle.std.proofs.Common.{◌≡◌, ◌+◌, IfOk, vec_len, length}
use Rattle.std.specs.List.{All}
use Rattle.claim_board.proofs.tests.close_with.Given as goal

abbrev pub invariant-loop-answer : goal.invariant-loop-answer
invariant-loop-answer l =
    (goal.iterator-loop-answer).can_next l.answer-iterator ×
    (goal.iterator-loop-answer).is_finite l.answer-iterator
    × (vec_len l.seats + length l.answer-iterator.rest.items ≡ l.fn.board.seats)
    × All (λ s. s.board ≡ l.fn.board) l.seats.items
    × All (λ a. IfOk a (λ r. r.0.board ≡ l.fn.board)) l.answer-iterator.rest.items
