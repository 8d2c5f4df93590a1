-- Choosing probes: those so far, the rules on them, and a gain kept for each entry.
use Rattle.std.specs.Prelude.{◌≡◌, ℕ, suc, ◌≤◌, Bool, false, List, length, take, slice_get, slice_index, slice_index_or, Some}
use Rattle.network_model.specs.Table.{Entry}
use Rattle.network_model.specs.Cover.{gain, rules_of, IsBest}
use Rattle.rule_cover.specs.Places.{Tells}

-- Each probe is the best after those before it, the flags tell which rules are on probes, and no entry gains more than
-- what is kept for it, which is nothing for those that are none.
pub record IsUnderway (numbers : List ℕ) (table : List Entry) (probes : List ℕ) (covered : List Bool) (kept : List ℕ) : Type 0 where
  pub each : (i n : ℕ) → slice_get probes i ≡ Some n → IsBest table (take i probes) n
  pub flags : length covered ≡ length numbers
  pub told : Tells numbers (rules_of table probes) (λ p. slice_index_or covered p false)
  pub count : length kept ≡ length table
  pub bound : (k : ℕ) → gain table probes (suc k) ≤ slice_index kept k
