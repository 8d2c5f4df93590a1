use Rattle.std.proofs.Common.{◌≡◌, ℕ, List}
use Rattle.std.specs.List.{All}
use Rattle.network_model.specs.Network.{Network}
use Rattle.claim_board.specs.Claims.{BoardId}
use Rattle.class_tree.specs.declared.class.Class.{Class}
use Rattle.frontier_waves.specs.Growths.{IsSlot}
use Rattle.frontier_waves.proofs.workers.slots_of.Given as goal

abbrev pub invariant-loop-seat : goal.invariant-loop-seat
invariant-loop-seat l =
    (goal.iterator-loop-seat).can_next l.seat-iterator ×
    (goal.iterator-loop-seat).is_finite l.seat-iterator
    × ((net : Network) (hops stride : ℕ) (wave : List Class) (board : BoardId) → All (λ s. s.board ≡ board) l.fn.seats.items
    → All (IsSlot net hops stride wave board) l.slots.items × All (λ s. s.board ≡ board) l.seat-iterator.rest.items)
