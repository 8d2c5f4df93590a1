-- The entries on which rules stand, by their places from 0, each rule at its place.
--     AreRising       each list is in rising order
--     AreBelow        each place in the lists is below a bound
--     AreStandings    each list has the entries on which its rule stands
--     AreUpTo         the same for the entries before a place
use Rattle.std.specs.Prelude.{◌≡◌, ℕ, suc, ◌<◌, ◌&&◌, nat_lt, List, [], length, slice_index, slice_index_or}
use Rattle.std.specs.List.Sorted.{IsStrictlyIncreasing}
use Rattle.network_model.specs.Table.{Entry}
use Rattle.network_model.specs.Cover.{rules_at, entry_at}
use Rattle.fault_model.specs.Outcomes.{has}

abbrev pub AreRising : List (List ℕ) → Type 0
AreRising lists = (p : ℕ) → p < length lists → IsStrictlyIncreasing (slice_index_or lists p [])

abbrev pub AreBelow : ℕ → List (List ℕ) → Type 0
AreBelow bound lists = (p i : ℕ) → p < length lists → i < length (slice_index_or lists p []) → slice_index (slice_index_or lists p []) i < bound

pub record AreStandings (numbers : List ℕ) (table : List Entry) (lists : List (List ℕ)) : Type 0 where
  pub count : length lists ≡ length numbers
  pub rising : AreRising lists
  pub below : AreBelow (length table) lists
  pub each : (p k : ℕ) → p < length numbers → has (slice_index_or lists p []) k ≡ has (rules_at (entry_at table (suc k))) (slice_index numbers p)

pub record AreUpTo (row : ℕ) (numbers : List ℕ) (table : List Entry) (lists : List (List ℕ)) : Type 0 where
  pub count : length lists ≡ length numbers
  pub rising : AreRising lists
  pub below : AreBelow row lists
  pub each : (p k : ℕ) → p < length numbers → has (slice_index_or lists p []) k ≡ (nat_lt k row && has (rules_at (entry_at table (suc k))) (slice_index numbers p))
