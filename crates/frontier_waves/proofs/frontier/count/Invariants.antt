use Rattle.std.proofs.Common.{◌≡◌, ◌-◌, ◌^◌, map, min, take}
use Rattle.twin_laws.specs.Shared.{weight_of, total}
use Rattle.frontier_waves.specs.Waves.{bare_path}
use Rattle.frontier_waves.proofs.frontier.count.Given as goal

-- the terminals of the classes so far and their twins
abbrev pub invariant-loop-start : goal.invariant-loop-start
invariant-loop-start l = l.count ≡ min (total (weight_of l.twins) (map bare_path (take l.start-index l.starts))) (2 ^ 64 - 1)
