-- The headers that match two patterns.
use Rattle.std.proofs.Common.{◌≡◌, ℕ, zero, suc, ◌<◌, Bool, true, false, ◌&&◌, ◌||◌, inl, inr, [], ◌∷◌, length, refl, sym, ap, ◌∙◌, arith, bit_and, bit_or}
use Rattle.std.proofs.lemmas.Bool.{and_cases, and_left, and_right, false≢true}
use Rattle.network_model.specs.Bits.{Header, Letter, Bit, Any, Pattern, letter_takes, matches}
use Rattle.ternary_bits.specs.Pieces.{letters_meet, meets}
use Rattle.ternary_bits.specs.Words.{is_one, places, letter_at, pattern_of}
use Rattle.ternary_bits.specs.Inverses.{is_one-and}
use Rattle.ternary_bits.proofs.Words.{is_one-or, same_words, within_at}
use Rattle.ternary_bits.proofs.Matching.{all_below-at, meets-places, letter, length-pattern_of}

pub and_swap : (x y p q : Bool) → ((x && y) && (p && q)) ≡ ((x && p) && (y && q))
and_swap true true p q = refl
and_swap true false true q = refl
and_swap true false false q = refl
and_swap false y p q = refl

letters_apart : (l m : Letter) (b : Bool) → letters_meet l m ≡ false → (letter_takes l b && letter_takes m b) ≡ false
letters_apart Any m b apart = absurd (false≢true (sym apart))
letters_apart (Bit c) Any b apart = absurd (false≢true (sym apart))
letters_apart (Bit true) (Bit true) b apart = absurd (false≢true (sym apart))
letters_apart (Bit true) (Bit false) true apart = refl
letters_apart (Bit true) (Bit false) false apart = refl
letters_apart (Bit false) (Bit true) true apart = refl
letters_apart (Bit false) (Bit true) false apart = refl
letters_apart (Bit false) (Bit false) b apart = absurd (false≢true (sym apart))

-- patterns that don't meet have no header in common
pub apart : (p q : Pattern) → meets p q ≡ false → (h : Header) → (matches p h && matches q h) ≡ false
apart [] [] none h = absurd (false≢true (sym none))
apart [] (m ∷ q) none [] = refl
apart [] (m ∷ q) none (b ∷ h) = refl
apart (l ∷ p) [] none [] = refl
apart (l ∷ p) [] none (b ∷ h) = and_right (letter_takes l b && matches p h) false refl
apart (l ∷ p) (m ∷ q) none [] = refl
apart (l ∷ p) (m ∷ q) none (b ∷ h) =
    and_swap (letter_takes l b) (matches p h) (letter_takes m b) (matches q h)
    ∙ (elim (and_cases (letters_meet l m) (meets p q) none)
    as (λ _. ((letter_takes l b && letter_takes m b) && (matches p h && matches q h)) ≡ false) [
      | inl here ↦ and_left _ (matches p h && matches q h) (letters_apart l m b here)
      | inr below ↦ and_right (letter_takes l b && letter_takes m b) _ (apart p q below h)
    ])

matches_both : (l m o : ℕ → Letter) (w : ℕ) → ((i : ℕ) → i < w → (b : Bool) → letter_takes (o i) b ≡ (letter_takes (l i) b && letter_takes (m i) b))
    → (h : Header) → matches (places o w) h ≡ (matches (places l w) h && matches (places m w) h)
unfolding places
matches_both l m o zero both [] = refl
matches_both l m o zero both (b ∷ h) = refl
matches_both l m o (suc w) both [] = refl
matches_both l m o (suc w) both (b ∷ h) =
    let here = both w (omega arith) b in
    let below = matches_both l m o w (λ i j. both i (omega arith)) h in
    ap (λ x. x && matches (places o w) h) here
    ∙ ap (λ x. (letter_takes (l w) b && letter_takes (m w) b) && x) below
    ∙ and_swap (letter_takes (l w) b) (letter_takes (m w) b) (matches (places l w) h) (matches (places m w) h)

both_ask : (v u b : Bool) → letters_meet (Bit v) (Bit u) ≡ true → letter_takes (Bit (v || u)) b ≡ (letter_takes (Bit v) b && letter_takes (Bit u) b)
both_ask true true true meet = refl
both_ask true true false meet = refl
both_ask true false b meet = absurd (false≢true meet)
both_ask false true b meet = absurd (false≢true meet)
both_ask false false true meet = refl
both_ask false false false meet = refl

one_asks : (v b : Bool) → letter_takes (Bit (v || false)) b ≡ (letter_takes (Bit v) b && true)
one_asks true true = refl
one_asks true false = refl
one_asks false true = refl
one_asks false false = refl

-- the letter of two that meet
joined : (c v d u b : Bool) → (v && c) ≡ v → (u && d) ≡ u → letters_meet (letter c v) (letter d u) ≡ true
    → letter_takes (letter (c || d) (v || u)) b ≡ (letter_takes (letter c v) b && letter_takes (letter d u) b)
joined true v true u b in_c in_d meet = both_ask v u b meet
joined true v false true b in_c in_d meet = absurd (false≢true in_d)
joined true v false false b in_c in_d meet = one_asks v b
joined false true d u b in_c in_d meet = absurd (false≢true in_c)
joined false false true u b in_c in_d meet = refl
joined false false false u b in_c in_d meet = refl

and_true : (u : Bool) → (u && true) ≡ u
and_true true = refl
and_true false = refl

union : (c v d u : Bool) → (v && c) ≡ v → (u && d) ≡ u → ((v || u) && (c || d)) ≡ (v || u)
union true true d u in_c in_d = refl
union true false d u in_c in_d = and_true u
union false true d u in_c in_d = absurd (false≢true in_c)
union false false d u in_c in_d = in_d

pub within-or : (c v d u : ℕ) → bit_and v c ≡ v → bit_and u d ≡ u → bit_and (bit_or v u) (bit_or c d) ≡ bit_or v u
within-or c v d u in_c in_d =
    same_words _ _ (λ i.
    is_one-and (bit_or v u) (bit_or c d) i
    ∙ ap (λ b. b && is_one (bit_or c d) i) (is_one-or v u i)
    ∙ ap (λ b. (is_one v i || is_one u i) && b) (is_one-or c d i)
    ∙ union (is_one c i) (is_one v i) (is_one d i) (is_one u i) (within_at v c i in_c) (within_at u d i in_d)
    ∙ sym (is_one-or v u i))

both_words : (w c v d u : ℕ) → bit_and v c ≡ v → bit_and u d ≡ u → meets (pattern_of w c v) (pattern_of w d u) ≡ true
    → (h : Header) → matches (pattern_of w (bit_or c d) (bit_or v u)) h ≡ (matches (pattern_of w c v) h && matches (pattern_of w d u) h)
both_words w c v d u in_c in_d meet =
    let all = sym (meets-places (letter_at c v) (letter_at d u) w) ∙ meet in
    matches_both (letter_at c v) (letter_at d u) (letter_at (bit_or c d) (bit_or v u)) w (λ i l b.
    ap (λ x. letter_takes (letter x (is_one (bit_or v u) i)) b) (is_one-or c d i)
    ∙ ap (λ x. letter_takes (letter (is_one c i || is_one d i) x) b) (is_one-or v u i)
    ∙ joined (is_one c i) (is_one v i) (is_one d i) (is_one u i) b (within_at v c i in_c) (within_at u d i in_d)
    (all_below-at (λ j. letters_meet (letter_at c v j) (letter_at d u j)) w i all l))

pub matches-meet : (w c v w' d u : ℕ) (p q : Pattern) → pattern_of w c v ≡ p → pattern_of w' d u ≡ q → length p ≡ length q → bit_and v c ≡ v → bit_and u d ≡ u
    → meets p q ≡ true → (h : Header) → matches (pattern_of w (bit_or c d) (bit_or v u)) h ≡ (matches p h && matches q h)
matches-meet w c v w' d u p q view view' widths in_c in_d meet h =
    let same : w' ≡ w = sym (length-pattern_of w' d u q view') ∙ sym widths ∙ length-pattern_of w c v p view in
    let other : pattern_of w d u ≡ q = ap (λ k. pattern_of k d u) (sym same) ∙ view' in
    let met : meets (pattern_of w c v) (pattern_of w d u) ≡ true = ap (λ k. meets (pattern_of w c v) k) other ∙ ap (λ k. meets k q) view ∙ meet in
    both_words w c v d u in_c in_d met h ∙ ap (λ k. matches (pattern_of w c v) h && matches k h) other ∙ ap (λ k. matches k h && matches q h) view
