use Rattle.std.proofs.Common.{take}
use Rattle.header_sets.specs.Spaces.{is_left}
use Rattle.header_sets.proofs.Pieces.{Made}
use Rattle.header_sets.proofs.indexed.IndexedSpace.meet_without.Given as goal

abbrev pub invariant-loop-own : goal.invariant-loop-own
invariant-loop-own l = Made (is_left l.p l.others) l.self-inside.bits (take l.own-index l.own-items) l.pieces.items
