-- The letters of a word, a byte of its bits at a time from the lowest on.
use Rattle.std.proofs.Common.{◌≡◌, ℕ, zero, suc, ◌+◌, ◌-◌, ◌*◌, ◌<◌, ◌≤◌, ◌^◌, ◌/◌, ◌%◌, eqb, List, [], ◌∷◌, ◌++◌, map, length, get_or, take, drop, refl, sym, ap, ◌∙◌, arith}
use Rattle.std.specs.Int.{bit_at}
use Rattle.std.proofs.lemmas.Nat.{shr-shr, shr_split}
use Rattle.std.proofs.lemmas.Nat.Bits.{bit_at_cat_low}
use Rattle.std.proofs.lemmas.List.{map-append, length-map, drop_at, drop-drop, length-take-le}
use borrow.Rule.Slice.PartMut.{put_mid}
use Rattle.ternary_bits.specs.Letters.{bit_letter, header_text}
use Rattle.ternary_bits.specs.Words.{is_one, places, header_of}
use Rattle.ternary_bits.specs.Inverses.{length-places, places-same}

-- the highest places, and then the others
places-add : {A : Type 0} (f : ℕ → A) (high low : ℕ) → places f (high + low) ≡ places (λ i. f (low + i)) high ++ places f low
unfolding places
places-add f zero low = ap (places f) (omega arith)
places-add f (suc high) low =
    let more : suc high + low ≡ suc (high + low) = omega arith in
    let here : f (high + low) ≡ f (low + high) = ap f (omega arith) in
    let below : places f (high + low) ≡ places (λ i. f (low + i)) high ++ places f low = places-add f high low in
    ap (places f) more ∙ cc

-- a bit of a word's byte
byte_bit : (word low i : ℕ) → i < 8 → is_one (word / 2 ^ low % 256) i ≡ is_one word (low + i)
byte_bit word low i inside =
    let rest : ℕ = word / 2 ^ low in
    ap (λ bit. eqb bit 1)
    (sym (bit_at_cat_low (rest / 2 ^ 8) 8 (rest % 2 ^ 8) i inside)
    ∙ ap (λ n. bit_at n i) (shr_split rest 8)
    ∙ ap (λ n. n % 2) (shr-shr word low i))

text-add : (word high low : ℕ) → header_text (header_of (high + low) word) ≡ map bit_letter (places (λ i. is_one word (low + i)) high) ++ header_text (header_of low word)
text-add word high low =
    ap header_text (places-add (is_one word) high low) ∙ map-append bit_letter (places (λ i. is_one word (low + i)) high) (header_of low word)

-- one more byte
pub byte_more : (word low rest : ℕ) → rest ≡ word / 2 ^ low
    → header_text (header_of 8 (rest % 256)) ++ header_text (header_of low word) ≡ header_text (header_of (8 + low) word)
byte_more word low rest is =
    ap (λ n. header_text (header_of 8 (n % 256)) ++ header_text (header_of low word)) is
    ∙ ap (λ bits. header_text bits ++ header_text (header_of low word))
    (places-same (is_one (word / 2 ^ low % 256)) (λ i. is_one word (low + i)) 8 (λ i l. byte_bit word low i l))
    ∙ sym (text-add word 8 low)

-- a byte is two halves
pub two_halves : (byte : ℕ) → header_text (header_of 4 (byte / 16)) ++ header_text (header_of 4 (byte % 16)) ≡ header_text (header_of 8 byte)
two_halves byte =
    ap (λ bits. header_text bits ++ header_text (header_of 4 (byte % 16))) (places-same (is_one (byte / 16)) (λ i. is_one byte (4 + i)) 4 (λ i l. high i))
    ∙ ap (λ bits. map bit_letter (places (λ i. is_one byte (4 + i)) 4) ++ header_text bits) (places-same (is_one (byte % 16)) (is_one byte) 4 low)
    ∙ sym (text-add byte 4 4)
  where
    high : (i : ℕ) → is_one (byte / 2 ^ 4) i ≡ is_one byte (4 + i)
    high i = ap (λ n. eqb (n % 2) 1) (shr-shr byte 4 i)

    low : (i : ℕ) → i < 4 → is_one (byte % 2 ^ 4) i ≡ is_one byte i
    low i inside = ap (λ bit. eqb bit 1) (sym (bit_at_cat_low (byte / 2 ^ 4) 4 (byte % 2 ^ 4) i inside) ∙ ap (λ n. bit_at n i) (shr_split byte 4))

abbrev eight : List ℕ → List ℕ → List ℕ
eight high low = get_or high 0 0 ∷ get_or high 1 0 ∷ get_or high 2 0 ∷ get_or high 3 0 ∷ get_or low 0 0 ∷ get_or low 1 0 ∷ get_or low 2 0 ∷ get_or low 3 0 ∷ []

joined : (high low : ℕ) → eight (header_text (header_of 4 high)) (header_text (header_of 4 low)) ≡ header_text (header_of 4 high) ++ header_text (header_of 4 low)
unfolding places
joined high low = refl

-- the letters of both halves, one by one
pub in_halves : (byte : ℕ) (high low : List ℕ) → high ≡ header_text (header_of 4 (byte / 16)) → low ≡ header_text (header_of 4 (byte % 16))
    → get_or high 0 0 ∷ get_or high 1 0 ∷ get_or high 2 0 ∷ get_or high 3 0 ∷ get_or low 0 0 ∷ get_or low 1 0 ∷ get_or low 2 0 ∷ get_or low 3 0 ∷ [] ≡ header_text (header_of 8 byte)
in_halves byte high low high_is low_is =
    ap (λ l. eight l low) high_is ∙ ap (λ l. eight (header_text (header_of 4 (byte / 16))) l) low_is ∙ joined (byte / 16) (byte % 16) ∙ two_halves byte

-- the lowest bits of more of them
pub text_low : (word more bits : ℕ) → bits ≤ more → drop (more - bits) (header_text (header_of more word)) ≡ header_text (header_of bits word)
text_low word more bits within =
    let split : more ≡ more - bits + bits = omega arith in
    ap (λ n. drop (more - bits) (header_text (header_of n word))) split
    ∙ ap (drop (more - bits)) (text-add word (more - bits) bits)
    ∙ drop_at (map bit_letter (places (λ i. is_one word (bits + i)) (more - bits))) (header_text (header_of bits word)) (more - bits)
    (length-map (places (λ i. is_one word (bits + i)) (more - bits)) bit_letter ∙ length-places (λ i. is_one word (bits + i)) (more - bits))

pub no_letters : (word : ℕ) → [] ≡ header_text (header_of 0 word)
unfolding places
no_letters word = refl

pub rest_less : (word rest bytes : ℕ) → rest ≡ word / 2 ^ (8 * bytes) → rest / 2 ^ 8 ≡ word / 2 ^ (8 * (bytes + 1))
rest_less word rest bytes is =
    let more : 8 * bytes + 8 ≡ 8 * (bytes + 1) = omega arith in
    ap (λ n. n / 2 ^ 8) is ∙ shr-shr word (8 * bytes) 8 ∙ ap (λ places. word / 2 ^ places) more

-- the letters of one more byte stand before those that were written
pub byte_written : (word rest bytes : ℕ) (letters eight : List ℕ) → bytes < 16 → length letters ≡ 128 → rest ≡ word / 2 ^ (8 * bytes)
    → eight ≡ header_text (header_of 8 (rest % 256)) → drop (128 - 8 * bytes) letters ≡ header_text (header_of (8 * bytes) word)
    → drop (128 - 8 * (bytes + 1)) (put_mid (128 - 8 * bytes - 8) (128 - 8 * bytes - (128 - 8 * bytes - 8)) letters eight) ≡ header_text (header_of (8 * (bytes + 1)) word)
byte_written word rest bytes letters eight few size is eight_is written =
    let at : ℕ = 128 - 8 * bytes - 8 in
    let wide : ℕ = 128 - 8 * bytes - at in
    let from : 128 - 8 * (bytes + 1) ≡ at = omega arith in
    let end : at + wide ≡ 128 - 8 * bytes = omega arith in
    let more : 8 + 8 * bytes ≡ 8 * (bytes + 1) = omega arith in
    ap (λ n. drop n (put_mid at wide letters eight)) from
    ∙ drop_at (take at letters) (eight ++ drop wide (drop at letters)) at (length-take-le at letters (omega arith))
    ∙ ap (λ later. eight ++ later) (drop-drop wide at letters ∙ ap (λ n. drop n letters) end ∙ written)
    ∙ ap (λ first. first ++ header_text (header_of (8 * bytes) word)) eight_is
    ∙ byte_more word (8 * bytes) rest is
    ∙ ap (λ n. header_text (header_of n word)) more

-- the last letters of those that were written
pub last_letters : (word bytes bits : ℕ) (letters : List ℕ) → bits ≤ 8 * bytes → bytes ≤ 16 → drop (128 - 8 * bytes) letters ≡ header_text (header_of (8 * bytes) word)
    → drop (128 - bits) letters ≡ header_text (header_of bits word)
last_letters word bytes bits letters within few written =
    let from : 128 - bits ≡ 128 - 8 * bytes + (8 * bytes - bits) = omega arith in
    ap (λ n. drop n letters) from
    ∙ sym (drop-drop (8 * bytes - bits) (128 - 8 * bytes) letters)
    ∙ ap (drop (8 * bytes - bits)) written
    ∙ text_low word (8 * bytes) bits within
