use Rattle.std.proofs.Common.{◌≡◌, take}
use Rattle.header_sets.proofs.space.Space.copy.Given as goal

abbrev pub invariant-loop-own : goal.invariant-loop-own
invariant-loop-own l = l.pieces.items ≡ take l.own-index l.own-items
