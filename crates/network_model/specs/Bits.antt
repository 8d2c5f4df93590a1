-- Headers and patterns.
--     Header      the bits of a packet's header, from the left
--     Pattern     at each place a bit that a header must have, or any
--     matches     a header has what the pattern asks for at every place
--     header_cmp  headers as words in a dictionary, 0 before 1
--     number_of   a header as a number, its leftmost bit the most significant
use Rattle.std.specs.Prelude.{ℕ, ◌+◌, ◌^◌, Bool, true, false, not, ◌&&◌, List, [], ◌∷◌, length, if◌then◌else◌}
use Rattle.std.specs.declared.cmp.Ordering.{Ordering}
use Rattle.std.specs.declared.cmp.Ordering.TheVariants.{Less, Equal, Greater}

abbrev pub Header : Type 0
Header = List Bool

pub data Letter : Type 0 where
  Bit : (bit : Bool) → Letter
  Any : Letter

abbrev pub Pattern : Type 0
Pattern = List Letter

abbrev pub letter_takes : Letter → Bool → Bool
letter_takes Any bit = true
letter_takes (Bit true) bit = bit
letter_takes (Bit false) bit = not bit

abbrev pub matches : Pattern → Header → Bool
matches [] [] = true
matches [] (bit ∷ bits) = false
matches (letter ∷ letters) [] = false
matches (letter ∷ letters) (bit ∷ bits) = letter_takes letter bit && matches letters bits

abbrev pub bit_cmp : Bool → Bool → Ordering → Ordering
bit_cmp false false rest = rest
bit_cmp false true rest = Less
bit_cmp true false rest = Greater
bit_cmp true true rest = rest

abbrev pub header_cmp : Header → Header → Ordering
header_cmp [] [] = Equal
header_cmp [] (b ∷ bs) = Less
header_cmp (a ∷ as_) [] = Greater
header_cmp (a ∷ as_) (b ∷ bs) = bit_cmp a b (header_cmp as_ bs)

abbrev pub number_of : Header → ℕ
number_of [] = 0
number_of (bit ∷ bits) = (if bit then 2 ^ length bits else 0) + number_of bits
