use Rattle.std.proofs.Common.{◌≤◌, ◌-◌, length}
use Rattle.frontier_waves.specs.Starts.{starts_of}
use Rattle.frontier_waves.specs.Waves.{HasSearched}
use Rattle.frontier_waves.proofs.search.grow_out.Given as goal

-- the search is so many rules deep
abbrev pub invariant-loop-depth : goal.invariant-loop-depth
invariant-loop-depth g l =
    HasSearched l.net l.hops l.twins (starts_of l.fn.starts.items) l.depth l.frontier.found l.frontier.wave.items
    × (length l.frontier.found.entries.items ≤ l.limit)
    × (l.depth ≤ l.hops)

abbrev pub decreases-loop-depth : goal.decreases-loop-depth
decreases-loop-depth g l = l.hops - l.depth
