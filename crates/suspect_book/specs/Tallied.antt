-- Entries by their places, each with a count, and whether it is open.
--     TallyValue    these two
--     is_one_at     the entry at a place is open and its count is one
--     IsTally       marks tell which these are
--     times         how often a number stands in a list
use Rattle.std.specs.Prelude.{◌≡◌, ◌==◌, ℕ, ◌&&◌, Bool, false, List, length, slice_index, slice_index_or, count_by}

pub record TallyValue : Type 0 where
  pub opens : List Bool
  pub counts : List ℕ

abbrev pub is_one_at : List Bool → List ℕ → ℕ → Bool
is_one_at opens counts k = slice_index_or opens k false && (slice_index counts k == 1)

pub record IsTally (opens : List Bool) (counts : List ℕ) (marks : List Bool) : Type 0 where
  pub opens_room : length opens ≡ length counts
  pub marks_room : length marks ≡ length counts
  pub told : (k : ℕ) → slice_index_or marks k false ≡ is_one_at opens counts k

abbrev pub times : List ℕ → ℕ → ℕ
times numbers n = count_by (λ m. m == n) numbers
