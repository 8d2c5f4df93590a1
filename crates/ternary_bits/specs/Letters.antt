-- Headers, patterns and rewrites as words of letters.
--     header_word    1 to 128 letters `0`, `1`
--     pattern_word   1 to 128 letters `0`, `1`, `x`
--     rewrite_word   1 to 128 letters `0`, `1`, `-`; at `-` a place keeps its bit
--     header_text    the letters of a header; likewise of a pattern
--     letters_text   the letters of a rewrite, where each old bit stays in its place
use Rattle.std.specs.Prelude.{ℕ, ◌+◌, ◌==◌, nat_le, Bool, true, false, ◌&&◌, List, [], ◌∷◌, length, map, Option, Some, None, if◌then◌else◌}
use Rattle.network_model.specs.Bits.{Header, Letter, Bit, Any, Pattern}
use Rattle.network_model.specs.Rewrites.{Item, Set, Old, Rewrite}

-- a further letter before letters that are right
abbrev pub onto : {A : Type 0} → Option A → Option (List A) → Option (List A)
onto None rest = None
onto (Some a) None = None
onto (Some a) (Some rest) = Some (a ∷ rest)

abbrev pub has_width : List ℕ → Bool
has_width word = nat_le 1 (length word) && nat_le (length word) 128

abbrev pub header_letter : ℕ → Option Bool
header_letter b = if b == 48 then Some false else (if b == 49 then Some true else None)

abbrev pub header_letters : List ℕ → Option Header
header_letters [] = Some []
header_letters (b ∷ bs) = onto (header_letter b) (header_letters bs)

abbrev pub header_word : List ℕ → Option Header
header_word word = if has_width word then header_letters word else None

abbrev pub pattern_letter : ℕ → Option Letter
pattern_letter b =
    if b == 48 then Some (Bit false) else (if b == 49 then Some (Bit true) else (if b == 120 then Some Any else None))

abbrev pub pattern_letters : List ℕ → Option Pattern
pattern_letters [] = Some []
pattern_letters (b ∷ bs) = onto (pattern_letter b) (pattern_letters bs)

abbrev pub pattern_word : List ℕ → Option Pattern
pattern_word word = if has_width word then pattern_letters word else None

abbrev pub rewrite_letter : ℕ → ℕ → Option Item
rewrite_letter place b =
    if b == 48 then Some (Set false) else (if b == 49 then Some (Set true) else (if b == 45 then Some (Old place) else None))

abbrev pub rewrite_letters : ℕ → List ℕ → Option Rewrite
rewrite_letters place [] = Some []
rewrite_letters place (b ∷ bs) = onto (rewrite_letter place b) (rewrite_letters (place + 1) bs)

abbrev pub rewrite_word : List ℕ → Option Rewrite
rewrite_word word = if has_width word then rewrite_letters 1 word else None

-- `0` and `1`
abbrev pub bit_letter : Bool → ℕ
bit_letter bit = if bit then 49 else 48

abbrev pub header_text : Header → List ℕ
header_text header = map bit_letter header

abbrev pub letter_of : Letter → ℕ
letter_of (Bit bit) = bit_letter bit
letter_of Any = 120

abbrev pub pattern_text : Pattern → List ℕ
pattern_text pattern = map letter_of pattern

abbrev pub item_letter : Item → ℕ
item_letter (Set bit) = bit_letter bit
item_letter (Old place) = 45

abbrev pub letters_text : Rewrite → List ℕ
letters_text rewrite = map item_letter rewrite
