use Rattle.std.proofs.Common.{◌≡◌, ◌+◌, ◌<◌, [], vec_len, vec_capacity}
use Rattle.std.specs.List.{All}
use Rattle.probe_agents.specs.Slots.{HandsOut}
use Rattle.probe_agents.proofs.shares.hand_out.Given as goal

abbrev pub invariant-loop-link : goal.invariant-loop-link
invariant-loop-link g l = record {
  handed : HandsOut l.initial.links.items l.entries l.links.items l.end l.slots.items;
  fresh : All (λ space. space.items ≡ []) l.spaces.items;
  count : vec_len l.slots + vec_len l.links ≡ vec_len l.initial.links;
  room : vec_capacity l.links ≡ vec_capacity l.initial.links;
  slots_room : vec_capacity l.slots ≡ vec_capacity l.initial.slots;
  last : vec_len l.links ≡ 0 → 0 < vec_len l.slots → l.end ≡ 0;
}

abbrev pub decreases-loop-link : goal.decreases-loop-link
decreases-loop-link g l = vec_len l.links
