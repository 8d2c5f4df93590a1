use Rattle.std.proofs.Common.{◌≡◌, map, take}
use Rattle.box_step.proofs.Listing.{list_pair, pair_of}
use Rattle.box_step.proofs.overlaps.Overlaps.of.Given as goal

-- the lists of the rules so far
abbrev pub invariant-loop-place : goal.invariant-loop-place
invariant-loop-place l = map list_pair l.rows.items ≡ map (pair_of l.net) (take l.place l.net.rules)
