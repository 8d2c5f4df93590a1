-- Failed and passed rules, each at its place, with the places of the entries on which it stands.
--     SheetValue    these, and which entries are open
--     tally         how many rules that failed and did not pass stand on the entry at a place
--     IsSheet       a count for each entry is its tally
use Rattle.std.specs.Prelude.{◌≡◌, ℕ, ◌+◌, ◌<◌, Bool, not, ◌&&◌, cond, List, [], ◌∷◌, length, slice_index, slice_index_or}
use Rattle.std.specs.List.Sorted.{IsStrictlyIncreasing}
use Rattle.suspect_book.specs.Tallied.{times}

pub record SheetValue : Type 0 where
  pub lists : List (List ℕ)
  pub failed : List Bool
  pub passed : List Bool
  pub opens : List Bool

abbrev pub tally : List Bool → List Bool → List (List ℕ) → ℕ → ℕ
tally (f ∷ failed) (p ∷ passed) (l ∷ lists) k = cond (f && not p) (times l k) 0 + tally failed passed lists k
tally failed passed lists k = 0

pub record IsSheet (lists : List (List ℕ)) (failed passed opens : List Bool) (counts : List ℕ) : Type 0 where
  pub failed_room : length failed ≡ length lists
  pub passed_room : length passed ≡ length lists
  pub opens_room : length opens ≡ length counts
  pub rises : (p : ℕ) → p < length lists → IsStrictlyIncreasing (slice_index_or lists p [])
  pub inside : (p i : ℕ) → p < length lists → i < length (slice_index_or lists p []) → slice_index (slice_index_or lists p []) i < length counts
  pub counted : (k : ℕ) → slice_index counts k ≡ tally failed passed lists k
