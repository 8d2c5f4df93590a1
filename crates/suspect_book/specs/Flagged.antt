-- Marks at places, with a flag for each block of 512 places.
--     IsFirstIn     the first place from one on and before another that is marked, where there is one
--     IsFirst       the first number below a bound that passes a test, where there is one
--     block_end     the end of a block among so many places
--     AreFlagged    each block with a mark has its flag
use Rattle.std.specs.Prelude.{◌≡◌, ℕ, ◌+◌, ◌-◌, ◌*◌, ◌/◌, ◌<◌, ◌≤◌, min, Bool, true, false, List, length, slice_index_or, Option, None, Some}

abbrev pub IsFirstIn : List Bool → ℕ → ℕ → Option ℕ → Type 0
IsFirstIn marks from to None = (k : ℕ) → from ≤ k → k < to → slice_index_or marks k false ≡ false
IsFirstIn marks from to (Some place) =
    (from ≤ place) × (place < to) × (slice_index_or marks place false ≡ true) × ((k : ℕ) → from ≤ k → k < place → slice_index_or marks k false ≡ false)

abbrev pub IsFirst : (ℕ → Bool) → ℕ → Option ℕ → Type 0
IsFirst test count None = (k : ℕ) → k < count → test k ≡ false
IsFirst test count (Some n) = (n < count) × (test n ≡ true) × ((k : ℕ) → k < n → test k ≡ false)

abbrev pub block_end : ℕ → ℕ → ℕ
block_end count block = 512 * block + min 512 (count - 512 * block)

pub record AreFlagged (marks flags : List Bool) : Type 0 where
  pub room : length flags ≡ length marks / 512 + 1
  pub flagged : (k : ℕ) → k < length marks → slice_index_or marks k false ≡ true → slice_index_or flags (k / 512) false ≡ true
