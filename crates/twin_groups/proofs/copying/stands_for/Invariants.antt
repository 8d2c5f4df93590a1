use Rattle.std.proofs.Common.{◌≡◌, ◌+◌, ◌≤◌, take}
use Rattle.twin_laws.specs.Shared.{weight_of}
use Rattle.twin_groups.proofs.copying.stands_for.Given as goal

-- itself and the twins so far
abbrev pub invariant-loop-twin : goal.invariant-loop-twin
invariant-loop-twin l = (l.count ≡ weight_of (take l.twin-index l.twins) l.first) × (l.count ≤ 1 + l.twin-index)
