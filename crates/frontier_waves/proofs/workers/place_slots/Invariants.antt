use Rattle.std.proofs.Common.{◌≡◌, ◌<◌, ℕ, List, length}
use Rattle.std.specs.List.{All}
use Rattle.network_model.specs.Network.{Network}
use Rattle.class_tree.specs.declared.class.Class.{Class}
use Rattle.frontier_waves.specs.Growths.{AreJobs, AreReady}
use Rattle.frontier_waves.proofs.workers.place_slots.Given as goal

abbrev pub invariant-loop-slot : goal.invariant-loop-slot
invariant-loop-slot l =
    (goal.iterator-loop-slot).can_next l.slot-iterator
    × (goal.iterator-loop-slot).is_finite l.slot-iterator
    × (length l.places ≡ length l.fn.places)
    × All (λ slot. All (λ job. job.number < length l.fn.places) slot.jobs.items) l.slot-iterator.rest.items
    × ((net : Network) (hops stride : ℕ) (wave : List Class) → All (λ slot. AreJobs net hops stride wave slot.jobs.items) l.fn.slots.items → AreReady net hops stride wave l.fn.places
    → AreReady net hops stride wave l.places × All (λ slot. AreJobs net hops stride wave slot.jobs.items) l.slot-iterator.rest.items)
