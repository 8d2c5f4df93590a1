use Rattle.std.proofs.Common.{◌<◌, ◌^◌}
use Rattle.ternary_bits.proofs.Rewriting.{HasBit}
use Rattle.ternary_bits.proofs.Walking.{Walks}
use Rattle.ternary_bits.proofs.rewrite.Rewrite.apply.Given as goal

abbrev pub invariant-loop-place : goal.invariant-loop-place
invariant-loop-place l =
    record {
      bits : Walks l.self-inside.moved l.moved l.self-inside.bits (HasBit l.self-inside.bits l.self-inside.set l.self-inside.value l.self-inside.sources l.header l.number);
      fits : l.number < 2 ^ l.self-inside.bits;
    }

abbrev pub decreases-loop-place : goal.decreases-loop-place
decreases-loop-place l = l.moved
