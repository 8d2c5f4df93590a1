use Rattle.std.proofs.Common.{◌≡◌, ◌<◌, ◌+◌, ◌-◌, ℕ, Some, length, map}
use Rattle.std.specs.List.{slice_get}
use Rattle.std.specs.String.{string_bytes}
use Rattle.command_line.proofs.pairs.place_of.Given as goal

-- the word stands at no earlier even place
abbrev pub invariant-loop-at : goal.invariant-loop-at
invariant-loop-at l = (j : ℕ) × (l.at ≡ j + j) × ((i : ℕ) → i < j → slice_get (map string_bytes l.words) (i + i) ≡ Some l.word → ⊥)

abbrev pub decreases-loop-at : goal.decreases-loop-at
decreases-loop-at l = length l.words - l.at
