-- What words of bits say of matching and meeting.
use Rattle.std.proofs.Common.{◌≡◌, ℕ, zero, suc, ◌+◌, ◌*◌, ◌<◌, ◌^◌, ◌%◌, Bool, true, false, not, ◌&&◌, eqb, if◌then◌else◌, inl, inr, length, refl, sym, ap, ◌∙◌, arith, bit_and, bit_xor}
use Rattle.std.specs.Int.{bit_at}
use Rattle.std.proofs.Math.Nat.{mod-eq_of_lt}
use Rattle.std.proofs.lemmas.Nat.{pow_pos, and_le_r}
use Rattle.std.proofs.lemmas.Nat.Bits.{bit_at-lt}
use Rattle.std.proofs.lemmas.Bool.{and_parts, and_from, cases_eq}
use Rattle.std.proofs.lemmas.Bool.Decides.{nat_tests}
use Rattle.network_model.specs.Bits.{Header, Letter, Bit, Any, Pattern, letter_takes, matches, number_of}
use Rattle.ternary_bits.specs.Pieces.{letters_meet, meets}
use Rattle.ternary_bits.specs.Words.{is_one, places, header_of, letter_at, pattern_of}
use Rattle.ternary_bits.specs.Inverses.{length-places, is_one-and, low_more}
use Rattle.ternary_bits.proofs.Headers.{header_from}
use Rattle.ternary_bits.proofs.Words.{xor, is_one-xor}

-- a test at each place below w
abbrev pub all_below : (ℕ → Bool) → ℕ → Bool
all_below test zero = true
all_below test (suc w) = test w && all_below test w

pub all_below-same : (f g : ℕ → Bool) (w : ℕ) → ((i : ℕ) → i < w → f i ≡ g i) → all_below f w ≡ all_below g w
all_below-same f g zero same = refl
all_below-same f g (suc w) same =
    let here : f w ≡ g w = same w (omega arith) in
    let below : all_below f w ≡ all_below g w = all_below-same f g w (λ i l. same i (omega arith)) in
    cc

pub all_below-at : (f : ℕ → Bool) (w i : ℕ) → all_below f w ≡ true → i < w → f i ≡ true
all_below-at f zero i all l = absurd (omega arith)
all_below-at f (suc w) i all l =
    let parts : (f w ≡ true) × (all_below f w ≡ true) = and_parts (f w) (all_below f w) all in
    elim (cases_eq i w) as (λ _. f i ≡ true) [
      | inl e ↦ ap f e ∙ parts.0
      | inr apart ↦ all_below-at f w i parts.1 (omega arith)
    ]

pub all_below-from : (f : ℕ → Bool) (w : ℕ) → ((i : ℕ) → i < w → f i ≡ true) → all_below f w ≡ true
all_below-from f zero each = refl
all_below-from f (suc w) each = and_from (f w) (all_below f w) (each w (omega arith)) (all_below-from f w (λ i l. each i (omega arith)))

zero_more : (bit p low : ℕ) → bit < 2 → 0 < p → eqb (bit * p + low) 0 ≡ (not (eqb bit 1) && eqb low 0)
zero_more zero p low small some = ap (λ n. eqb n 0) (omega arith)
zero_more (suc zero) p low small some = grind (arith, nat_tests)
zero_more (suc (suc n)) p low small some = absurd (omega arith)

-- a word is 0 if it has no bit
zero_below : (x w : ℕ) → eqb (x % 2 ^ w) 0 ≡ all_below (λ i. not (is_one x i)) w
zero_below x zero =
    let e : x % 2 ^ zero ≡ 0 = omega arith in
    ap (λ n. eqb n 0) e
zero_below x (suc w) =
    ap (λ n. eqb n 0) (low_more x w)
    ∙ zero_more (bit_at x w) (2 ^ w) (x % 2 ^ w) (bit_at-lt x w) (pow_pos w)
    ∙ ap (λ rest. not (is_one x w) && rest) (zero_below x w)

pub is_zero : (x w : ℕ) → x < 2 ^ w → eqb x 0 ≡ all_below (λ i. not (is_one x i)) w
is_zero x w fits =
    let low : x ≡ x % 2 ^ w = sym (mod-eq_of_lt fits) in
    ap (λ n. eqb n 0) low ∙ zero_below x w

pub matches-places : (l : ℕ → Letter) (b : ℕ → Bool) (w : ℕ) → matches (places l w) (places b w) ≡ all_below (λ i. letter_takes (l i) (b i)) w
unfolding places
matches-places l b zero = refl
matches-places l b (suc w) = ap (λ rest. letter_takes (l w) (b w) && rest) (matches-places l b w)

pub meets-places : (l m : ℕ → Letter) (w : ℕ) → meets (places l w) (places m w) ≡ all_below (λ i. letters_meet (l i) (m i)) w
unfolding places
meets-places l m zero = refl
meets-places l m (suc w) = ap (λ rest. letters_meet (l w) (m w) && rest) (meets-places l m w)

abbrev pub letter : Bool → Bool → Letter
letter c v = if c then Bit v else Any

takes : (c v b : Bool) → letter_takes (letter c v) b ≡ not (xor b v && c)
takes true true true = refl
takes true true false = refl
takes true false true = refl
takes true false false = refl
takes false true true = refl
takes false true false = refl
takes false false true = refl
takes false false false = refl

pub matches-words : (w care value n : ℕ) → care < 2 ^ w → eqb (bit_and (bit_xor n value) care) 0 ≡ matches (pattern_of w care value) (header_of w n)
matches-words w care value n fits =
    let x : ℕ = bit_and (bit_xor n value) care in
    let below : x < 2 ^ w = omega (arith, and_le_r (bit_xor n value) care) in
    is_zero x w below
    ∙ all_below-same _ _ w
    (λ i l. ap not (is_one-and (bit_xor n value) care i ∙ ap (λ b. b && is_one care i) (is_one-xor n value i))
    ∙ sym (takes (is_one care i) (is_one value i) (is_one n i)))
    ∙ sym (matches-places (letter_at care value) (is_one n) w)

meet_letters : (c v d u : Bool) → letters_meet (letter c v) (letter d u) ≡ not ((xor v u && c) && d)
meet_letters true true true true = refl
meet_letters true true true false = refl
meet_letters true true false true = refl
meet_letters true true false false = refl
meet_letters true false true true = refl
meet_letters true false true false = refl
meet_letters true false false true = refl
meet_letters true false false false = refl
meet_letters false true true true = refl
meet_letters false true true false = refl
meet_letters false true false true = refl
meet_letters false true false false = refl
meet_letters false false true true = refl
meet_letters false false true false = refl
meet_letters false false false true = refl
meet_letters false false false false = refl

pub meets-words : (w care value care' value' : ℕ) → care' < 2 ^ w
    → eqb (bit_and (bit_and (bit_xor value value') care) care') 0 ≡ meets (pattern_of w care value) (pattern_of w care' value')
meets-words w care value care' value' fits =
    let y : ℕ = bit_xor value value' in
    let x : ℕ = bit_and (bit_and y care) care' in
    let below : x < 2 ^ w = omega (arith, and_le_r (bit_and y care) care') in
    is_zero x w below
    ∙ all_below-same _ _ w
    (λ i l. ap not (is_one-and (bit_and y care) care' i
    ∙ ap (λ b. b && is_one care' i) (is_one-and y care i ∙ ap (λ b. b && is_one care i) (is_one-xor value value' i)))
    ∙ sym (meet_letters (is_one care i) (is_one value i) (is_one care' i) (is_one value' i)))
    ∙ sym (meets-places (letter_at care value) (letter_at care' value') w)

pub length-pattern_of : (w care value : ℕ) (p : Pattern) → pattern_of w care value ≡ p → length p ≡ w
length-pattern_of w care value p view = ap length (sym view) ∙ length-places (letter_at care value) w

-- words of another pattern of the same width
pub same_width : (w care value w' care' value' : ℕ) (p q : Pattern) → pattern_of w care value ≡ p → pattern_of w' care' value' ≡ q → length p ≡ length q
    → (w' ≡ w) × (pattern_of w care' value' ≡ q)
same_width w care value w' care' value' p q view view' widths =
    let same : w' ≡ w = sym (length-pattern_of w' care' value' q view') ∙ sym widths ∙ length-pattern_of w care value p view in
    (same, ap (λ k. pattern_of k care' value') (sym same) ∙ view')

pub test_matches : (w care value n : ℕ) (p : Pattern) (h : Header) → care < 2 ^ w → pattern_of w care value ≡ p → n ≡ number_of h → length p ≡ length h
    → eqb (bit_and (bit_xor n value) care) 0 ≡ matches p h
test_matches w care value n p h fits view number widths =
    let header : header_of w n ≡ h = header_from h w n (sym widths ∙ length-pattern_of w care value p view) (sym number) in
    matches-words w care value n fits ∙ ap (λ k. matches (pattern_of w care value) k) header ∙ ap (λ q. matches q h) view

pub test_meets : (w care value w' care' value' : ℕ) (p q : Pattern) → care' < 2 ^ w' → pattern_of w care value ≡ p → pattern_of w' care' value' ≡ q → length p ≡ length q
    → eqb (bit_and (bit_and (bit_xor value value') care) care') 0 ≡ meets p q
test_meets w care value w' care' value' p q fits view view' widths =
    let same : w' ≡ w = sym (length-pattern_of w' care' value' q view') ∙ sym widths ∙ length-pattern_of w care value p view in
    let below : care' < 2 ^ w = rw (← same) fits in
    let other : pattern_of w care' value' ≡ q = ap (λ k. pattern_of k care' value') (sym same) ∙ view' in
    meets-words w care value care' value' below ∙ ap (λ k. meets (pattern_of w care value) k) other ∙ ap (λ k. meets k q) view
