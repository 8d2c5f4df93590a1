-- Rules by their places among the rules of a network, which stand in rising order.
--     numbers_of     the numbers of a network's rules
--     rules_there    the rules at these places
--     ArePlaces      places of a list's rules, each rule once, so that both lists add as much to any rules
--     AreLists       such places for each entry of a table
--     Tells          a test of places tells which rules are in a list
use Rattle.std.specs.Prelude.{◌≡◌, ℕ, ◌<◌, Bool, false, List, [], length, take, map, nat_eq, slice_get, slice_index, slice_index_or}
use Rattle.std.specs.List.{list_any}
use Rattle.std.specs.List.Sorted.{IsStrictlyIncreasing}
use Rattle.network_model.specs.Network.{Network, Numbered}
use Rattle.network_model.specs.Table.{Entry}
use Rattle.network_model.specs.Cover.{fresh, rules_at}

abbrev pub numbers_of : Network → List ℕ
numbers_of net = map (λ (r : Numbered). r.0) net.rules

abbrev pub rules_there : List ℕ → List ℕ → List ℕ
rules_there numbers places = map (slice_index numbers) places

pub record ArePlaces (numbers rules places : List ℕ) : Type 0 where
  pub inside : (i : ℕ) → i < length places → slice_index places i < length numbers
  pub once : (i : ℕ) → i < length places → list_any (nat_eq (slice_index (rules_there numbers places) i)) (take i (rules_there numbers places)) ≡ false
  pub members : (r : ℕ) → list_any (nat_eq r) (rules_there numbers places) ≡ list_any (nat_eq r) rules
  pub adds : (known : List ℕ) → fresh known (rules_there numbers places) ≡ fresh known rules

pub record AreLists (numbers : List ℕ) (table : List Entry) (lists : List (List ℕ)) : Type 0 where
  pub rises : IsStrictlyIncreasing numbers
  pub count : length lists ≡ length table
  pub each : (k : ℕ) → k < length table → ArePlaces numbers (rules_at (slice_get table k)) (slice_index_or lists k [])

abbrev pub Tells : List ℕ → List ℕ → (ℕ → Bool) → Type 0
Tells numbers rules test = (p : ℕ) → p < length numbers → test p ≡ list_any (nat_eq (slice_index numbers p)) rules
