use Rattle.std.proofs.Common.{◌≡◌, ◌+◌, ◌∷◌, ◌++◌, length}
use Rattle.std.specs.List.{count_by}
use Rattle.claim_board.specs.Claims.{drawn_by}
use Rattle.claim_board.proofs.seats.gather.Given as goal

abbrev pub invariant-loop-other : goal.invariant-loop-other
invariant-loop-other l =
    (goal.iterator-loop-other).can_next l.other-iterator ×
    (goal.iterator-loop-other).is_finite l.other-iterator
    × (l.fn.others.items ≡ l.yielded ++ l.other-iterator.rest.items)
    × (l.whole.table_id ≡ l.shared.table_id)
    × (l.whole.me.0.seats ≡ length l.yielded + 1)
    × (l.whole.me.0.ended ≡ count_by (λ s. s.spent) (l.fn.last ∷ l.yielded))
    × (l.whole.me.0.drawn ≡ drawn_by (l.fn.last ∷ l.yielded))
