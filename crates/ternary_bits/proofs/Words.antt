-- The bits of words.
use Rattle.std.proofs.Common.{◌≡◌, ℕ, ◌-◌, ◌^◌, ◌<◌, Bool, true, false, not, ◌&&◌, ◌||◌, eqb, sym, ap, ◌∙◌, arith, bit_and, bit_or, bit_xor}
use Rattle.std.specs.Int.{bit_not, w128}
use Rattle.std.proofs.lemmas.Nat.Bits.{bit_at_or, bit_at_xor, bit_at_not, bit_at-lt, bit_at_ones, bit_at-zero, same_from_bits, same_from_bits_below}
use Rattle.std.proofs.lemmas.Bool.Decides.{nat_tests}
use Rattle.ternary_bits.specs.Words.{is_one}
use Rattle.ternary_bits.specs.Inverses.{is_one-and}

abbrev pub xor : Bool → Bool → Bool
xor true b = not b
xor false b = b

pub is_one-or : (a b i : ℕ) → is_one (bit_or a b) i ≡ (is_one a i || is_one b i)
is_one-or a b i =
    let bits = bit_at_or a b i in
    let small = bit_at-lt a i in
    let small' = bit_at-lt b i in
    grind (arith, nat_tests)

pub is_one-xor : (a b i : ℕ) → is_one (bit_xor a b) i ≡ xor (is_one a i) (is_one b i)
is_one-xor a b i =
    let bits = bit_at_xor a b i in
    let small = bit_at-lt a i in
    let small' = bit_at-lt b i in
    grind (arith, nat_tests)

pub is_one-not : (n i : ℕ) → n < 2 ^ 128 → i < 128 → is_one (bit_not w128 n) i ≡ not (is_one n i)
is_one-not n i fits within =
    let bits = bit_at_not w128 n i fits within in
    let small = bit_at-lt n i in
    grind (arith, nat_tests)

pub is_one-ones : (w i : ℕ) → i < w → is_one (2 ^ w - 1) i ≡ true
is_one-ones w i l = ap (λ b. eqb b 1) (bit_at_ones w i l)

pub is_one-zero : (i : ℕ) → is_one 0 i ≡ false
is_one-zero i = ap (λ b. eqb b 1) (bit_at-zero i)

same_bit : (a b : ℕ) → a < 2 → b < 2 → eqb a 1 ≡ eqb b 1 → a ≡ b
same_bit a b small small' same = grind (arith, nat_tests)

-- a word is known by its bits
pub same_words : (a b : ℕ) → ((i : ℕ) → is_one a i ≡ is_one b i) → a ≡ b
same_words a b same = same_from_bits a b (λ i. same_bit _ _ (bit_at-lt a i) (bit_at-lt b i) (same i))

pub same_words_below : (w a b : ℕ) → a < 2 ^ w → b < 2 ^ w → ((i : ℕ) → i < w → is_one a i ≡ is_one b i) → a ≡ b
same_words_below w a b fits fits' same =
    same_from_bits_below w a b fits fits' (λ i l. same_bit _ _ (bit_at-lt a i) (bit_at-lt b i) (same i l))

pub within_at : (v c i : ℕ) → bit_and v c ≡ v → (is_one v i && is_one c i) ≡ is_one v i
within_at v c i within = sym (is_one-and v c i) ∙ ap (λ word. is_one word i) within
