use Rattle.std.proofs.Common.{◌≡◌, ◌∷◌, ◌++◌, [], map, ◌<◌}
use Rattle.std.specs.List.{All}
use Rattle.desk_turns.specs.Passes.{known_of, HasOwnCalls}
use Rattle.desk_turns.proofs.closing.gather.Given as goal

abbrev pub invariant-loop-other : goal.invariant-loop-other
invariant-loop-other l =
    (goal.iterator-loop-other).can_next l.other-iterator
    × (goal.iterator-loop-other).is_finite l.other-iterator
    × (l.fn.others.items ≡ l.yielded ++ l.other-iterator.rest.items)
    × (l.whole.table_id ≡ l.shared.table_id)
    × (l.whole.me ≡ (map known_of (l.fn.last ∷ l.yielded), []))
    × All HasOwnCalls (l.fn.last ∷ l.yielded)
    × (0 < l.fn.last.number)
