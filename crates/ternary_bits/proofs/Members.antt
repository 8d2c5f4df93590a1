-- The least and the greatest header of a pattern.
use Rattle.std.proofs.Common.{◌≡◌, ℕ, ◌-◌, ◌<◌, ◌≤◌, ◌^◌, Bool, true, false, not, ◌&&◌, ◌||◌, if◌then◌else◌, [], ◌∷◌, refl, sym, ap, ◌∙◌, arith, bit_and, bit_or}
use Rattle.std.specs.Int.{bit_not, w128}
use Rattle.std.specs.declared.cmp.Ordering.TheVariants.{Less}
use Rattle.std.proofs.lemmas.Nat.{pow_pos, and_le_l, or_lt}
use Rattle.network_model.specs.Bits.{Header, Bit, Any, Pattern, matches, header_cmp}
use Rattle.ternary_bits.specs.Pieces.{least_member, greatest_bit, greatest_member}
use Rattle.ternary_bits.specs.Words.{is_one, header_of, letter_at, pattern_of}
use Rattle.ternary_bits.specs.Inverses.{map-places, places-same, is_one-and}
use Rattle.ternary_bits.proofs.Words.{is_one-or, is_one-not, is_one-ones}

pub least_matches : (p : Pattern) → matches p (least_member p) ≡ true
least_matches [] = refl
least_matches (Any ∷ p) = least_matches p
least_matches (Bit true ∷ p) = least_matches p
least_matches (Bit false ∷ p) = least_matches p

pub greatest_matches : (p : Pattern) → matches p (greatest_member p) ≡ true
greatest_matches [] = refl
greatest_matches (Any ∷ p) = greatest_matches p
greatest_matches (Bit true ∷ p) = greatest_matches p
greatest_matches (Bit false ∷ p) = greatest_matches p

pub least_first : (p : Pattern) (h : Header) → matches p h ≡ true → header_cmp h (least_member p) ≡ Less → ⊥
least_first [] [] fits less = cc
least_first [] (b ∷ bits) fits less = cc
least_first (l ∷ p) [] fits less = cc
least_first (Any ∷ p) (true ∷ bits) fits less = cc
least_first (Any ∷ p) (false ∷ bits) fits less = least_first p bits fits less
least_first (Bit true ∷ p) (true ∷ bits) fits less = least_first p bits fits less
least_first (Bit true ∷ p) (false ∷ bits) fits less = cc
least_first (Bit false ∷ p) (true ∷ bits) fits less = cc
least_first (Bit false ∷ p) (false ∷ bits) fits less = least_first p bits fits less

pub greatest_last : (p : Pattern) (h : Header) → matches p h ≡ true → header_cmp (greatest_member p) h ≡ Less → ⊥
greatest_last [] [] fits less = cc
greatest_last [] (b ∷ bits) fits less = cc
greatest_last (l ∷ p) [] fits less = cc
greatest_last (Any ∷ p) (true ∷ bits) fits less = greatest_last p bits fits less
greatest_last (Any ∷ p) (false ∷ bits) fits less = cc
greatest_last (Bit true ∷ p) (true ∷ bits) fits less = greatest_last p bits fits less
greatest_last (Bit true ∷ p) (false ∷ bits) fits less = cc
greatest_last (Bit false ∷ p) (true ∷ bits) fits less = cc
greatest_last (Bit false ∷ p) (false ∷ bits) fits less = greatest_last p bits fits less

-- the number of the greatest header: the bits asked for, and 1 where any bit will do
abbrev pub greatest_word : ℕ → ℕ → ℕ → ℕ
greatest_word ones care value = bit_or value (bit_and ones (bit_not w128 care))

pub greatest_word-lt : (w ones care value : ℕ) → ones ≡ 2 ^ w - 1 → value < 2 ^ w → greatest_word ones care value < 2 ^ w
greatest_word-lt w ones care value are fits =
    or_lt w value (bit_and ones (bit_not w128 care)) fits (omega (arith, and_le_l ones (bit_not w128 care), pow_pos w))

greatest_letter : (c v : Bool) → greatest_bit (if c then Bit v else Any) ≡ (v || (true && not c))
greatest_letter true true = refl
greatest_letter true false = refl
greatest_letter false true = refl
greatest_letter false false = refl

pub greatest_member-pattern_of : (w ones care value : ℕ) → ones ≡ 2 ^ w - 1 → w ≤ 128 → care < 2 ^ 128
    → greatest_member (pattern_of w care value) ≡ header_of w (greatest_word ones care value)
greatest_member-pattern_of w ones care value are within fits =
    map-places greatest_bit (letter_at care value) w
    ∙ places-same _ _ w (λ i l.
    greatest_letter (is_one care i) (is_one value i)
    ∙ ap (λ b. is_one value i || (b && not (is_one care i))) (sym (ap (λ x. is_one x i) are ∙ is_one-ones w i l))
    ∙ ap (λ b. is_one value i || (is_one ones i && b)) (sym (is_one-not care i fits (omega arith)))
    ∙ ap (λ b. is_one value i || b) (sym (is_one-and ones (bit_not w128 care) i))
    ∙ sym (is_one-or value (bit_and ones (bit_not w128 care)) i))
