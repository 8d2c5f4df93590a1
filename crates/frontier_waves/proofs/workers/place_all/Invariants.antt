use Rattle.std.proofs.Common.{◌≡◌, ◌<◌, ℕ, List, length}
use Rattle.std.specs.List.{All}
use Rattle.network_model.specs.Network.{Network}
use Rattle.class_tree.specs.declared.class.Class.{Class}
use Rattle.frontier_waves.specs.Growths.{AreJobs, AreReady}
use Rattle.frontier_waves.proofs.workers.place_all.Given as goal

abbrev pub invariant-loop-job : goal.invariant-loop-job
invariant-loop-job l =
    (goal.iterator-loop-job).can_next l.job-iterator ×
    (goal.iterator-loop-job).is_finite l.job-iterator
    × (length l.places ≡ length l.fn.places)
    × All (λ job. job.number < length l.fn.places) l.job-iterator.rest.items
    × ((net : Network) (hops stride : ℕ) (wave : List Class) → AreJobs net hops stride wave l.fn.jobs.items → AreReady net hops stride wave l.fn.places
    → AreReady net hops stride wave l.places × AreJobs net hops stride wave l.job-iterator.rest.items)
