use Rattle.std.proofs.Common.{◌+◌, ◌≤◌, vec_len, vec_capacity}
use Rattle.probe_agents.specs.Slots.{MovesBack}
use Rattle.probe_agents.proofs.shares.move_back.Given as goal

abbrev pub invariant-loop-slot : goal.invariant-loop-slot
invariant-loop-slot g l = record {
  moved : MovesBack l.initial.slots.items l.slots.items l.initial.links.items l.links.items l.initial.shots.items l.shots.items l.enough;
  room : vec_len l.links + vec_len l.slots ≤ vec_capacity l.links;
}

abbrev pub decreases-loop-slot : goal.decreases-loop-slot
decreases-loop-slot g l = vec_len l.slots
