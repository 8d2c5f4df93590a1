-- What the program takes for a word that it was given.
--     no_word     stands for a word that is no text: U+FFFD alone, which stands in no good command line
--     IsTaken     what stands for a word of these bytes
--     AreTaken    the same for each word, in order
use Rattle.std.specs.Prelude.{◌≡◌, ℕ, List, [], ◌∷◌, length, slice_get, Some, IsUtf8}

abbrev pub no_word : List ℕ
no_word = 239 ∷ 191 ∷ 189 ∷ []

pub record IsTaken (bytes text : List ℕ) : Type 0 where
  pub same : IsUtf8 bytes → text ≡ bytes
  pub other : ¬ (IsUtf8 bytes) → text ≡ no_word

pub record AreTaken (all words : List (List ℕ)) : Type 0 where
  pub many : length words ≡ length all
  pub each : (i : ℕ) (bytes text : List ℕ) → slice_get all i ≡ Some bytes → slice_get words i ≡ Some text → IsTaken bytes text
