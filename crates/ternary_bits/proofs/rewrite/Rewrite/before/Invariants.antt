use Rattle.std.proofs.Common.{◌≡◌, length, bit_and}
use Rattle.ternary_bits.proofs.Sources.{ToCome, Matched}
use Rattle.ternary_bits.proofs.rewrite.Rewrite.before.Given as goal

abbrev pub invariant-loop-place : goal.invariant-loop-place
invariant-loop-place l =
    record {
      width : length l.sources ≡ l.self-inside.bits;
      places : ToCome (bit_and l.self-inside.moved l.pattern-inside.care) l.moved l.self-inside.bits;
      matched : Matched l.self-inside.bits l.self-inside.set l.self-inside.value l.self-inside.sources l.pattern-inside.care l.pattern-inside.value l.moved l.sources;
    }

abbrev pub decreases-loop-place : goal.decreases-loop-place
decreases-loop-place l = l.moved
