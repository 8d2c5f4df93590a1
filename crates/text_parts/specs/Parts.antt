-- A text in two parts, with a line between them whose only word is a given one.
--     is_only        the words of a line are this one alone
--     parted         the lines before the first such line, and those after it, where there is one
--     ended          the lines, each with a line feed behind it
--     before_line    the text before that line, or all of it
--     lines_after    the lines after it, or none
--     IsParting      the places at which it begins and ends
use Rattle.std.specs.Prelude.{◌≡◌, ℕ, ◌+◌, ◌<◌, ◌≤◌, Bool, false, List, [], ◌∷◌, ◌++◌, take, drop, length, Option, Some, None, if◌then◌else◌}
use Rattle.std.specs.Str.{bytes_eq}
use Rattle.text_words.specs.Words.{lines_of, words_of}

abbrev pub is_only : List ℕ → List (List ℕ) → Bool
is_only name [] = false
is_only name (word ∷ []) = bytes_eq word name
is_only name (word ∷ next ∷ words) = false

pub record Parts : Type 0 where
  pub before : List (List ℕ)
  pub after : List (List ℕ)

abbrev pub with_line : List ℕ → Option Parts → Option Parts
with_line line None = None
with_line line (Some parts) = Some (record { before = line ∷ parts.before; after = parts.after })

abbrev pub parted : List ℕ → List (List ℕ) → Option Parts
parted name [] = None
parted name (line ∷ lines) =
    if is_only name (words_of line) then Some (record { before = []; after = lines }) else with_line line (parted name lines)

abbrev pub ended : List (List ℕ) → List ℕ
ended [] = []
ended (line ∷ lines) = line ++ 10 ∷ ended lines

abbrev pub before_or : List ℕ → Option Parts → List ℕ
before_or text None = text
before_or text (Some parts) = ended parts.before

abbrev pub after_or_none : Option Parts → List (List ℕ)
after_or_none None = []
after_or_none (Some parts) = parts.after

abbrev pub before_line : List ℕ → List ℕ → List ℕ
before_line name text = before_or text (parted name (lines_of text))

abbrev pub lines_after : List ℕ → List ℕ → List (List ℕ)
lines_after name text = after_or_none (parted name (lines_of text))

pub record IsParting (name text : List ℕ) (start end : ℕ) : Type 0 where
  pub parts : Parts
  pub are : parted name (lines_of text) ≡ Some parts
  pub order : start ≤ end
  pub within : end ≤ length text
  pub before : take start text ≡ ended parts.before
  pub after : end < length text → lines_of (drop (end + 1) text) ≡ parts.after
  pub last : length text ≤ end → parts.after ≡ []
