-- The lines of what is left of a text.
--     lines_left    of what follows a line feed, or none where none follows
--     most_left     more than these are not left
use Rattle.std.specs.Prelude.{ℕ, ◌+◌, List, [], Option, None, Some, length}
use Rattle.text_words.specs.Words.{lines_of}

abbrev pub lines_left : Option (List ℕ) → List (List ℕ)
lines_left None = []
lines_left (Some text) = lines_of text

abbrev pub most_left : Option (List ℕ) → ℕ
most_left None = 0
most_left (Some text) = length text + 1
