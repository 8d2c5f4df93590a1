use Rattle.std.proofs.Common.{◌≡◌, ◌+◌, ℕ, List, length, map, take}
use Rattle.std.specs.Prelude.{sum_by}
use Rattle.box_step.proofs.Listing.{list_pair, pair_of}
use Rattle.box_step.proofs.overlaps.Overlaps.at_most.Given as goal

-- the lists of the rules so far, and how many members may still come
abbrev pub invariant-loop-place : goal.invariant-loop-place
invariant-loop-place l = record {
  lists : map list_pair l.rows.items ≡ map (pair_of l.net) (take l.place l.net.rules);
  left : sum_by (λ (list : ℕ × List ℕ). length list.1) (map (pair_of l.net) (take l.place l.net.rules)) + l.left ≡ l.pairs;
}
