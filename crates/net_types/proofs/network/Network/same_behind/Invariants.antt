use Rattle.std.proofs.Common.{ℕ, ◌<◌, get_or}
use Rattle.net_types.specs.declared.parts.Port.{Port}
use Rattle.net_types.specs.SameParts.{IsSamePort}
use Rattle.net_types.proofs.network.Network.same_behind.Given as goal

abbrev pub invariant-loop-port : goal.invariant-loop-port
invariant-loop-port l = (k : ℕ) (d : Port) → k < l.port-index → IsSamePort l.self l.other (get_or l.ports k d).id
