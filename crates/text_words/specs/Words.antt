-- Lines and words of a text.
--     lines_of    the parts between line feeds; what follows the last one is a last line
--     words_of    the longest runs of bytes other than space, tab and carriage return, before the first `#`
use Rattle.std.specs.Prelude.{ℕ, ◌==◌, Bool, true, false, ◌||◌, List, [], ◌∷◌}
use Rattle.std.specs.List.{before_first, slice_split, filter}

abbrev pub lines_of : List ℕ → List (List ℕ)
lines_of text = slice_split (λ b. b == 10) text

abbrev pub is_blank : ℕ → Bool
is_blank b = (b == 32) || ((b == 9) || (b == 13))

abbrev pub is_word : List ℕ → Bool
is_word [] = false
is_word (b ∷ bs) = true

abbrev pub words_of : List ℕ → List (List ℕ)
words_of line = filter is_word (slice_split is_blank (before_first (λ b. b == 35) line))
