-- Words of letters in which one letter, the blank, stands for a place without a bit.
--     place_letter    what a letter stands for
--     place_letters   what a word stands for
--     place_text      the letter of a place
use Rattle.std.specs.Prelude.{ℕ, ◌==◌, Bool, false, true, List, [], ◌∷◌, Option, Some, None, if◌then◌else◌}
use Rattle.network_model.specs.Bits.{Letter, Bit, Any, Pattern}
use Rattle.ternary_bits.specs.Letters.{onto, bit_letter}

abbrev pub is_blank : Option ℕ → ℕ → Bool
is_blank None b = false
is_blank (Some blank) b = b == blank

abbrev pub place_letter : Option ℕ → ℕ → Option Letter
place_letter blank b =
    if b == 48 then Some (Bit false) else (if b == 49 then Some (Bit true) else (if is_blank blank b then Some Any else None))

abbrev pub place_letters : Option ℕ → List ℕ → Option Pattern
place_letters blank [] = Some []
place_letters blank (b ∷ bs) = onto (place_letter blank b) (place_letters blank bs)

abbrev pub place_text : ℕ → Letter → ℕ
place_text blank (Bit bit) = bit_letter bit
place_text blank Any = blank
