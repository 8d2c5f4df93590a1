-- Words judged pair by pair.
--     IsStuckAt     no pair that may stand there begins at a place, by the first word that is wrong or missing, counted from 1
use Rattle.std.specs.Prelude.{◌≡◌, ℕ, ◌+◌, ◌⊎◌, List, slice_get, Some}
use Rattle.command_line.specs.Table.{Named, MayFollow, IsNameAt}

abbrev pub NoName : List Named → List (List ℕ) → ℕ → Type 0
NoName names words at = (name : Named) → IsNameAt names words at name → ⊥

-- a name stands there, and no word that may follow it
pub record NoValue (names : List Named) (words : List (List ℕ)) (at : ℕ) : Type 0 where
  pub name : Named
  pub is_name : IsNameAt names words at name
  pub none : (word : List ℕ) → MayFollow name.value word → slice_get words (at + 1) ≡ Some word → ⊥

abbrev pub IsStuckAt : List Named → List (List ℕ) → ℕ → ℕ → Type 0
IsStuckAt names words at place = ((place ≡ at + 1) × NoName names words at) ⊎ ((place ≡ at + 2) × NoValue names words at)
