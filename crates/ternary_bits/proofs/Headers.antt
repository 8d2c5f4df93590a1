-- A header is the bits of its number.
use Rattle.std.proofs.Common.{◌≡◌, ℕ, suc, ◌+◌, ◌*◌, ◌<◌, ◌^◌, ◌%◌, true, false, eqb, [], ◌∷◌, length, refl, sym, ap, ◌∙◌, arith}
use Rattle.std.specs.Int.{bit_at}
use Rattle.std.proofs.Math.Nat.{mod-eq_of_lt, pow-suc}
use Rattle.std.proofs.lemmas.Nat.{div-mul-add}
use Rattle.std.proofs.lemmas.Nat.Bits.{bit_at_cat_low}
use Rattle.network_model.specs.Bits.{Header, number_of}
use Rattle.ternary_bits.specs.Words.{is_one, places, header_of}
use Rattle.ternary_bits.specs.Inverses.{places-same, number_of-header_of}

pub number_of-lt : (h : Header) → number_of h < 2 ^ length h
number_of-lt [] = omega arith
number_of-lt (true ∷ bits) = omega (arith, pow-suc 2 (length bits), number_of-lt bits)
number_of-lt (false ∷ bits) = omega (arith, pow-suc 2 (length bits), number_of-lt bits)

-- a number of w bits with one more bit before them
top : (bit w low : ℕ) → bit < 2 → low < 2 ^ w → bit_at (bit * 2 ^ w + low) w ≡ bit
top bit w low small fits = ap (λ n. n % 2) (div-mul-add bit (2 ^ w) low fits) ∙ mod-eq_of_lt small

header_more : (bit w low : ℕ) → bit < 2 → low < 2 ^ w → header_of (suc w) (bit * 2 ^ w + low) ≡ (eqb bit 1) ∷ header_of w low
unfolding places
header_more bit w low small fits =
    let here : is_one (bit * 2 ^ w + low) w ≡ eqb bit 1 = ap (λ b. eqb b 1) (top bit w low small fits) in
    let below : places (is_one (bit * 2 ^ w + low)) w ≡ places (is_one low) w =
    places-same _ _ w (λ i l. ap (λ b. eqb b 1) (bit_at_cat_low bit w low i l))
    in
    cc

header_none : header_of 0 0 ≡ []
unfolding places
header_none = refl

pub header_is : (h : Header) → header_of (length h) (number_of h) ≡ h
header_is [] = header_none
header_is (true ∷ bits) =
    let e : 2 ^ length bits + number_of bits ≡ 1 * 2 ^ length bits + number_of bits = omega arith in
    ap (header_of (suc (length bits))) e
    ∙ header_more 1 (length bits) (number_of bits) (omega arith) (number_of-lt bits)
    ∙ ap (λ rest. true ∷ rest) (header_is bits)
header_is (false ∷ bits) =
    let e : 0 + number_of bits ≡ 0 * 2 ^ length bits + number_of bits = omega arith in
    ap (header_of (suc (length bits))) e
    ∙ header_more 0 (length bits) (number_of bits) (omega arith) (number_of-lt bits)
    ∙ ap (λ rest. false ∷ rest) (header_is bits)

-- a header is known by its width and its number
pub header_from : (h : Header) (w n : ℕ) → length h ≡ w → number_of h ≡ n → header_of w n ≡ h
header_from h w n width number = ap (λ k. header_of k n) (sym width) ∙ ap (header_of (length h)) (sym number) ∙ header_is h

pub number_of-fits : (w n : ℕ) → n < 2 ^ w → number_of (header_of w n) ≡ n
number_of-fits w n fits = number_of-header_of w n ∙ mod-eq_of_lt fits
