use Rattle.std.proofs.Common.{◌≡◌, ℕ, Some, take}
use Rattle.std.specs.Prelude.{slice_get}
use Rattle.std.specs.List.{All, Contains}
use Rattle.network_model.specs.Bits.{Pattern}
use Rattle.header_sets.proofs.indexed.patterns_at.Given as goal

-- the patterns at the places so far are there
abbrev pub invariant-loop-place : goal.invariant-loop-place
invariant-loop-place l = record {
  listed : All (λ (pattern : Pattern). Contains l.patterns pattern) l.found.items;
  every : (place : ℕ) (pattern : Pattern) → Contains (take l.place-index l.places) place → slice_get l.patterns place ≡ Some pattern → Contains l.found.items pattern;
}
