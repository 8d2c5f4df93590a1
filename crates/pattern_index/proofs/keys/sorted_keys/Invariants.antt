use Rattle.std.proofs.Common.{ℕ, ◌<◌, map}
use Rattle.std.specs.List.{Contains}
use Rattle.pattern_index.proofs.keys.sorted_keys.Given as goal

-- the places so far are there
abbrev pub invariant-loop-place : goal.invariant-loop-place
invariant-loop-place l = (k : ℕ) → k < l.place → Contains (map (λ (key : ℕ × ℕ). key.1) l.keys.items) k
