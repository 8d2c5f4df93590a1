-- The parts of an entry's line, each with the space after it.
use Rattle.std.specs.Prelude.{ℕ, List, [], ◌∷◌, ◌++◌, codes}
use Rattle.std.specs.Fmt.{decimal}
use Rattle.network_model.specs.Table.{Entry}
use Rattle.ternary_bits.specs.Letters.{header_text}

-- the word `entry`, its number and its terminals
abbrev pub entry_ends : ℕ → Entry → List ℕ
entry_ends n e = codes "entry " ++ (decimal n ++ (32 ∷ (decimal e.«from» ++ (32 ∷ (decimal e.to ++ 32 ∷ [])))))

abbrev pub entry_headers : Entry → List ℕ
entry_headers e = header_text e.least ++ (32 ∷ (header_text e.greatest ++ (32 ∷ (header_text e.arrives ++ 32 ∷ []))))
