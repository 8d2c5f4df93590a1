-- The first bits of words, as the bits of what is left of them.
use Rattle.std.proofs.Common.{◌≡◌, ℕ, zero, suc, ◌+◌, ◌-◌, ◌*◌, ◌/◌, ◌%◌, ◌^◌, ◌<◌, ◌≤◌, eqb, ◌∷◌, ◌++◌, take, refl, sym, ap, subst, ◌∙◌, arith, add_comm}
use Rattle.std.proofs.lemmas.Nat.{shr-shr, shr_split, shr_high, shr_below, pow-add, pow_pos}
use Rattle.std.proofs.lemmas.Nat.Bits.{bit_at_cat_low, bit_at_cat_high}
use Rattle.ternary_bits.specs.Words.{is_one, places, header_of}
use Rattle.ternary_bits.specs.Inverses.{places-same}

take-places : {A : Type 0} (f : ℕ → A) (k n : ℕ) → take n (places f (n + k)) ≡ places (λ i. f (i + k)) n
unfolding places
take-places f k zero = refl
take-places f k (suc n) =
    let next : suc n + k ≡ suc (n + k) = omega arith in
    ap (λ w. take (suc n) (places f w)) next ∙ ap (λ rest. f (n + k) ∷ rest) (take-places f k n)

high_bit : (word k i : ℕ) → is_one word (i + k) ≡ is_one (word / 2 ^ k) i
high_bit word k i =
    let turned : i + k ≡ k + i = add_comm i k in
    ap (λ n. eqb (word / 2 ^ n % 2) 1) turned ∙ ap (λ n. eqb (n % 2) 1) (sym (shr-shr word k i))

-- the first bits of a word are those of its quotient
pub first_bits : (size k w word : ℕ) → size + k ≡ w → take size (header_of w word) ≡ header_of size (word / 2 ^ k)
first_bits size k w word whole =
    ap (λ n. take size (header_of n word)) (sym whole)
    ∙ take-places (is_one word) k size
    ∙ places-same _ _ size (λ i l. high_bit word k i)

-- the bits of two words behind one another are those of one word
pub joined_bits : (v w a b : ℕ) → b < 2 ^ w → header_of v a ++ header_of w b ≡ header_of (v + w) (a * 2 ^ w + b)
unfolding places
joined_bits zero w a b fits =
    let width : w ≡ 0 + w = omega arith in
    places-same _ _ w (λ i l. ap (λ bit. eqb bit 1) (sym (bit_at_cat_low a w b i l))) ∙ ap (λ n. header_of n (a * 2 ^ w + b)) width
joined_bits (suc v) w a b fits =
    let next : suc (v + w) ≡ suc v + w = omega arith in
    let down : v + w - w ≡ v = omega arith in
    let here : is_one a v ≡ is_one (a * 2 ^ w + b) (v + w) =
    ap (is_one a) (sym down) ∙ ap (λ bit. eqb bit 1) (sym (bit_at_cat_high a w b (v + w) fits (omega arith)))
    in
    ap (λ bit. bit ∷ (header_of v a ++ header_of w b)) here
    ∙ ap (λ rest. is_one (a * 2 ^ w + b) (v + w) ∷ rest) (joined_bits v w a b fits)
    ∙ ap (λ n. header_of n (a * 2 ^ w + b)) next

-- ---- what the words of a rule come to

-- the first bits of two words of 32 bits, one behind the other
pub of_two_words : (size b c : ℕ) → size ≤ 64 → c < 2 ^ 32
    → take size (header_of 32 b ++ header_of 32 c) ≡ header_of size ((b * 2 ^ 32 + c) / 2 ^ (64 - size))
of_two_words size b c small fits =
    ap (take size) (joined_bits 32 32 b c fits) ∙ first_bits size (64 - size) 64 (b * 2 ^ 32 + c) (omega arith)

spread : (e p q s r b : ℕ) → s * q + r ≡ b → e * (p * q) + b ≡ (e * p + s) * q + r
spread e p q s r b split = omega arith

quotient_of : (e j k b : ℕ) → (e * 2 ^ (j + k) + b) / 2 ^ k ≡ e * 2 ^ j + b / 2 ^ k
quotient_of e j k b =
    let below : b % 2 ^ k < 2 ^ k = omega (arith, pow_pos k) in
    ap (λ n. (e * n + b) / 2 ^ k) (pow-add 2 j k)
    ∙ ap (λ n. n / 2 ^ k) (spread e (2 ^ j) (2 ^ k) (b / 2 ^ k) (b % 2 ^ k) b (shr_split b k))
    ∙ shr_high (e * 2 ^ j + b / 2 ^ k) k (b % 2 ^ k) below

-- four bits, and the first bits of a word of 32 bits
pub of_edge_and_word : (size e b : ℕ) → 4 ≤ size → size ≤ 36 → b < 2 ^ 32
    → header_of 4 e ++ take (size - 4) (header_of 32 b) ≡ header_of size ((e * 2 ^ 32 + b) / 2 ^ (36 - size))
of_edge_and_word size e b large small fits =
    let rest : size - 4 + (36 - size) ≡ 32 = omega arith in
    let width : 4 + (size - 4) ≡ size = omega arith in
    let below : b < 2 ^ (size - 4 + (36 - size)) = let Above : ℕ → Type 0 = λ n. b < 2 ^ n in subst Above (sym rest) fits in
    ap (λ bits. header_of 4 e ++ bits) (first_bits (size - 4) (36 - size) 32 b rest)
    ∙ joined_bits 4 (size - 4) e (b / 2 ^ (36 - size)) (shr_below b (size - 4) (36 - size) below)
    ∙ ap (λ n. header_of n (e * 2 ^ (size - 4) + b / 2 ^ (36 - size))) width
    ∙ ap (header_of size) (sym (quotient_of e (size - 4) (36 - size) b) ∙ ap (λ n. (e * 2 ^ n + b) / 2 ^ (36 - size)) rest)
