use Rattle.std.proofs.Common.{◌≡◌, []}
use Rattle.std.specs.List.{All}
use Rattle.probe_agents.proofs.shares.spaces_of.Given as goal

abbrev pub invariant-loop : goal.invariant-loop
invariant-loop l = All (λ space. space.items ≡ []) l.spaces.items
