use Rattle.std.proofs.Common.{◌≡◌, length}
use Rattle.ternary_bits.proofs.Composing.{HasItem}
use Rattle.ternary_bits.proofs.Walking.{Walks}
use Rattle.ternary_bits.proofs.rewrite.Rewrite.then.Given as goal

abbrev pub invariant-loop-place : goal.invariant-loop-place
invariant-loop-place l =
    record {
      width : length l.both ≡ length l.self;
      items : Walks l.initial.moved l.moved (length l.self) (HasItem (length l.self) l.self l.later l.both);
    }

abbrev pub decreases-loop-place : goal.decreases-loop-place
decreases-loop-place l = l.moved
