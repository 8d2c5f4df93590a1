use Rattle.std.proofs.Common.{ℕ, ◌+◌, ◌≤◌, List, length, take}
use Rattle.frontier_waves.specs.Waves.{HasSearched}
use Rattle.frontier_waves.proofs.ReadyPlaces.{AreReadyFrom}
use Rattle.frontier_waves.proofs.WaveSteps.{IsBetween}
use Rattle.frontier_waves.proofs.gathering.gather.Given as goal

-- the classes so far are taken
abbrev pub invariant-loop-at : goal.invariant-loop-at
invariant-loop-at l =
    ((terminals : List ℕ) (depth : ℕ) → depth + l.stride ≤ l.hops → HasSearched l.net l.hops l.twins terminals depth l.fn.found l.wave
    → IsBetween l.net l.hops l.twins terminals depth l.stride (take l.at l.wave) l.next.found l.next.wave.items)
    × (length l.next.found.entries.items ≤ l.limit)
    × AreReadyFrom l.net l.hops l.stride l.wave l.at l.ready.items
