-- Places in a list that rises by number.
--     IsAt     what stands at a place has the number
--     IsGap    a number would go there: what stands before has lesser numbers, and the rest has greater ones
use Rattle.std.specs.Prelude.{◌≡◌, ℕ, ◌<◌, ◌≤◌, List, length, slice_index_or}

pub record IsAt {X : Type 0} (number_of : X → ℕ) (rows : List X) (number i : ℕ) : Type 0 where
  pub inside : i < length rows
  pub same : (d : X) → number_of (slice_index_or rows i d) ≡ number

pub record IsGap {X : Type 0} (number_of : X → ℕ) (rows : List X) (number i : ℕ) : Type 0 where
  pub inside : i ≤ length rows
  pub before : (k : ℕ) (d : X) → k < i → number_of (slice_index_or rows k d) < number
  pub after : (k : ℕ) (d : X) → i ≤ k → k < length rows → number < number_of (slice_index_or rows k d)
