-- Lines of a printed text.
--     line           words parted by one space, ended by a line feed
--     number_line    a name and numbers
--     number_list    the word of a list of numbers: joined by commas, `-` where there is none
use Rattle.std.specs.Prelude.{ℕ, List, [], ◌∷◌, ◌++◌, map, codes}
use Rattle.std.specs.List.{join_with_byte}
use Rattle.std.specs.Fmt.{decimal}

abbrev pub line : List (List ℕ) → List ℕ
line words = join_with_byte 32 words ++ 10 ∷ []

abbrev pub number_line : List ℕ → List ℕ → List ℕ
number_line name numbers = line (name ∷ map decimal numbers)

abbrev pub number_list : List ℕ → List ℕ
number_list [] = codes "-"
number_list (n ∷ ns) = join_with_byte 44 (map decimal (n ∷ ns))
