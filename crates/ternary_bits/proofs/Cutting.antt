-- The first of the pieces that two patterns leave, in words.
use Rattle.std.proofs.Common.{◌≡◌, ◌≢◌, ℕ, zero, suc, ◌+◌, ◌-◌, ◌*◌, ◌/◌, ◌%◌, ◌<◌, ◌≤◌, ◌^◌, Bool, true, false, not, ◌&&◌, ◌||◌, eqb, inl, inr, [], ◌∷◌, map, refl, sym, ap, ◌∙◌, arith, bit_and, bit_or, bit_xor}
use Rattle.std.specs.Int.{bit_not, w128}
use Rattle.std.proofs.Math.Nat.{pow-suc, pow-le-pow_right}
use Rattle.std.proofs.lemmas.Nat.{div-mul-add, and_le_l, or_lt}
use Rattle.std.proofs.lemmas.Nat.Bits.{bit_at_above, bit_at-pow_same, bit_at-pow_other}
use Rattle.std.proofs.lemmas.Bool.{cases_eq, cases_lt, and_parts, not-true, false≢true}
use Rattle.network_model.specs.Bits.{Letter, Bit, Any, Pattern}
use Rattle.ternary_bits.specs.Pieces.{pieces}
use Rattle.ternary_bits.specs.Words.{is_one, places, letter_at, pattern_of}
use Rattle.ternary_bits.specs.Inverses.{is_one-and, is_one-within, places-same}
use Rattle.ternary_bits.proofs.Words.{xor, is_one-or, is_one-xor, is_one-not, is_one-zero, same_words, within_at}
use Rattle.ternary_bits.proofs.Matching.{letter}

-- a place that is free in the pattern, and has a bit in the other
abbrev pub is_cut : Letter → Letter → Bool
is_cut Any (Bit bit) = true
is_cut Any Any = false
is_cut (Bit bit) m = false

uncut : (l m : Letter) (ls ms l1s l2s : Pattern) → is_cut l m ≡ false → pieces ls ms ≡ l1s ∷ pieces l2s ms
    → pieces (l ∷ ls) (m ∷ ms) ≡ (l ∷ l1s) ∷ pieces (l ∷ l2s) (m ∷ ms)
uncut Any Any ls ms l1s l2s none below = ap (map (λ piece. Any ∷ piece)) below
uncut Any (Bit b) ls ms l1s l2s none below = absurd (false≢true (sym none))
uncut (Bit c) m ls ms l1s l2s none below = ap (map (λ piece. Bit c ∷ piece)) below

uncut_none : (l m : Letter) (ls ms : Pattern) → is_cut l m ≡ false → pieces ls ms ≡ [] → pieces (l ∷ ls) (m ∷ ms) ≡ []
uncut_none Any Any ls ms none below = ap (map (λ piece. Any ∷ piece)) below
uncut_none Any (Bit b) ls ms none below = absurd (false≢true (sym none))
uncut_none (Bit c) m ls ms none below = ap (map (λ piece. Bit c ∷ piece)) below

cut_here : (l m l1 l2 : Letter) (b : Bool) (ls ms l1s l2s : Pattern) → l ≡ Any → m ≡ Bit b → l1 ≡ Bit (not b) → l2 ≡ Bit b → l1s ≡ ls → l2s ≡ ls
    → pieces (l ∷ ls) (m ∷ ms) ≡ (l1 ∷ l1s) ∷ pieces (l2 ∷ l2s) (m ∷ ms)
cut_here l m l1 l2 b ls ms l1s l2s any asks flips keeps same same' = rw (any, asks, flips, keeps, same, same') refl

pub pieces_none : (l m : ℕ → Letter) (w : ℕ) → ((i : ℕ) → i < w → is_cut (l i) (m i) ≡ false) → pieces (places l w) (places m w) ≡ []
unfolding places
pieces_none l m zero none = refl
pieces_none l m (suc w) none = uncut_none (l w) (m w) _ _ (none w (omega arith)) (pieces_none l m w (λ i below. none i (omega arith)))

-- what the letters of the first piece and of the rest are
pub record IsFirstCut (l m l1 l2 : ℕ → Letter) (w j : ℕ) (b : Bool) : Type 0 where
  pub within : j < w
  pub none_above : (i : ℕ) → j < i → i < w → is_cut (l i) (m i) ≡ false
  pub any : l j ≡ Any
  pub asks : m j ≡ Bit b
  pub flips : l1 j ≡ Bit (not b)
  pub keeps : l2 j ≡ Bit b
  pub same : (i : ℕ) → i < w → i ≢ j → l1 i ≡ l i
  pub same' : (i : ℕ) → i < w → i ≢ j → l2 i ≡ l i

narrower : (l m l1 l2 : ℕ → Letter) (w j : ℕ) (b : Bool) → IsFirstCut l m l1 l2 (suc w) j b → j < w → IsFirstCut l m l1 l2 w j b
narrower l m l1 l2 w j b cut below = record {
  within = below;
  none_above = λ i above l. cut.none_above i above (omega arith);
  any = cut.any;
  asks = cut.asks;
  flips = cut.flips;
  keeps = cut.keeps;
  same = λ i l apart. cut.same i (omega arith) apart;
  same' = λ i l apart. cut.same' i (omega arith) apart;
}

pub pieces_first : (l m l1 l2 : ℕ → Letter) (w j : ℕ) (b : Bool) → IsFirstCut l m l1 l2 w j b
    → pieces (places l w) (places m w) ≡ places l1 w ∷ pieces (places l2 w) (places m w)
unfolding places
pieces_first l m l1 l2 zero j b cut = absurd (omega (arith, cut.within))
pieces_first l m l1 l2 (suc w) j b cut =
    elim (cases_eq j w) as (λ _. pieces (l w ∷ places l w) (m w ∷ places m w) ≡ (l1 w ∷ places l1 w) ∷ pieces (l2 w ∷ places l2 w) (m w ∷ places m w)) [
      | inl e ↦ cut_here (l w) (m w) (l1 w) (l2 w) b _ _ _ _
          (ap l (sym e) ∙ cut.any)
          (ap m (sym e) ∙ cut.asks)
          (ap l1 (sym e) ∙ cut.flips)
          (ap l2 (sym e) ∙ cut.keeps)
          (places-same l1 l w (λ i below. cut.same i (omega arith) (omega arith)))
          (places-same l2 l w (λ i below. cut.same' i (omega arith) (omega arith)))
      | inr apart ↦
          let within : j < w = omega (arith, cut.within) in
          let e1 : l1 w ≡ l w = cut.same w (omega arith) (omega arith) in
          let e2 : l2 w ≡ l w = cut.same' w (omega arith) (omega arith) in
          rw (e1, e2) (uncut (l w) (m w) _ _ _ _ (cut.none_above w within (omega arith)) (pieces_first l m l1 l2 w j b (narrower l m l1 l2 w j b cut within)))
    ]

-- ---- in words: c and v are the pattern's, d and u the other's, p is the highest bit of what d has and c has not

pub cut_letters : (c v d u : Bool) → is_cut (letter c v) (letter d u) ≡ (d && not c)
cut_letters true v true u = refl
cut_letters true v false u = refl
cut_letters false v true u = refl
cut_letters false v false u = refl

abbrev pub free_word : ℕ → ℕ → ℕ
free_word c d = bit_and d (bit_not w128 c)

pub is_one-free : (c d i : ℕ) → c < 2 ^ 128 → i < 128 → is_one (free_word c d) i ≡ (is_one d i && not (is_one c i))
is_one-free c d i fits within = is_one-and d (bit_not w128 c) i ∙ ap (λ b. is_one d i && b) (is_one-not c i fits within)

pub cut_at : (c v d u i : ℕ) → c < 2 ^ 128 → i < 128 → is_one (free_word c d) i ≡ false → is_cut (letter_at c v i) (letter_at d u i) ≡ false
cut_at c v d u i fits within none =
    cut_letters (is_one c i) (is_one v i) (is_one d i) (is_one u i) ∙ sym (is_one-free c d i fits within) ∙ none

pub none_words : (w c v d u : ℕ) → c < 2 ^ 128 → w ≤ 128 → free_word c d ≡ 0 → pieces (pattern_of w c v) (pattern_of w d u) ≡ []
none_words w c v d u fits within none =
    pieces_none (letter_at c v) (letter_at d u) w (λ i l.
    cut_at c v d u i fits (omega arith) (ap (λ word. is_one word i) none ∙ is_one-zero i))

abbrev pub piece_value : ℕ → ℕ → ℕ → ℕ
piece_value v u p = bit_or v (bit_xor (bit_and u p) p)

abbrev pub rest_value : ℕ → ℕ → ℕ → ℕ
rest_value v u p = bit_or v (bit_and u p)

elsewhere_piece : (c v u : Bool) → letter (c || false) (v || xor (u && false) false) ≡ letter c v
elsewhere_piece true true true = refl
elsewhere_piece true true false = refl
elsewhere_piece true false true = refl
elsewhere_piece true false false = refl
elsewhere_piece false v u = refl

elsewhere_rest : (c v u : Bool) → letter (c || false) (v || (u && false)) ≡ letter c v
elsewhere_rest true true u = refl
elsewhere_rest true false true = refl
elsewhere_rest true false false = refl
elsewhere_rest false v u = refl

there_piece : (u : Bool) → letter (false || true) (false || xor (u && true) true) ≡ Bit (not u)
there_piece true = refl
there_piece false = refl

there_rest : (u : Bool) → letter (false || true) (false || (u && true)) ≡ Bit u
there_rest true = refl
there_rest false = refl

piece_bit : (v u p i : ℕ) → is_one (piece_value v u p) i ≡ (is_one v i || xor (is_one u i && is_one p i) (is_one p i))
piece_bit v u p i =
    is_one-or v (bit_xor (bit_and u p) p) i
    ∙ ap (λ x. is_one v i || x) (is_one-xor (bit_and u p) p i ∙ ap (λ x. xor x (is_one p i)) (is_one-and u p i))

rest_bit : (v u p i : ℕ) → is_one (rest_value v u p) i ≡ (is_one v i || (is_one u i && is_one p i))
rest_bit v u p i = is_one-or v (bit_and u p) i ∙ ap (λ x. is_one v i || x) (is_one-and u p i)

piece_at : (c v u p i : ℕ) → letter_at (bit_or c p) (piece_value v u p) i ≡ letter (is_one c i || is_one p i) (is_one v i || xor (is_one u i && is_one p i) (is_one p i))
piece_at c v u p i =
    ap (λ x. letter x (is_one (piece_value v u p) i)) (is_one-or c p i)
    ∙ ap (letter (is_one c i || is_one p i))
    (piece_bit v u p i)

rest_at : (c v u p i : ℕ) → letter_at (bit_or c p) (rest_value v u p) i ≡ letter (is_one c i || is_one p i) (is_one v i || (is_one u i && is_one p i))
rest_at c v u p i =
    ap (λ x. letter x (is_one (rest_value v u p) i)) (is_one-or c p i)
    ∙ ap (letter (is_one c i || is_one p i)) (rest_bit v u p i)

is_one-pow : (p j : ℕ) → p ≡ 2 ^ j → is_one p j ≡ true
is_one-pow p j power = ap (λ word. is_one word j) power ∙ ap (λ b. eqb b 1) (bit_at-pow_same j)

is_one-other : (p j i : ℕ) → p ≡ 2 ^ j → i ≢ j → is_one p i ≡ false
is_one-other p j i power apart = ap (λ word. is_one word i) power ∙ ap (λ b. eqb b 1) (bit_at-pow_other j i apart)

pub top_bit : (f p j : ℕ) → p ≡ 2 ^ j → p ≤ f → f < 2 * p → is_one f j ≡ true
top_bit f p j power low high =
    let parts : f ≡ 1 * 2 ^ j + (f - 2 ^ j) = omega arith in
    let quotient : f / 2 ^ j ≡ 1 = ap (λ n. n / 2 ^ j) parts ∙ div-mul-add 1 (2 ^ j) (f - 2 ^ j) (omega arith) in
    ap (λ q. eqb (q % 2) 1) quotient

pub above_top : (f p j i : ℕ) → p ≡ 2 ^ j → f < 2 * p → j < i → is_one f i ≡ false
above_top f p j i power high above =
    ap (λ b. eqb b 1) (bit_at_above f (suc j) i (omega (arith, pow-suc 2 j)) (omega arith))

pub below_width : (f p j w : ℕ) → p ≡ 2 ^ j → p ≤ f → f < 2 ^ w → j < w
below_width f p j w power low fits =
    elim (cases_lt j w) as (λ _. j < w) [ inl l ↦ l | inr past ↦ absurd (omega (arith, pow-le-pow_right {n = 2} (omega arith) past)) ]

pub first_words : (w c v d u p j : ℕ) → w ≤ 128 → c < 2 ^ 128 → d < 2 ^ w → bit_and v c ≡ v → p ≡ 2 ^ j → p ≤ free_word c d → free_word c d < 2 * p
    → pieces (pattern_of w c v) (pattern_of w d u)
    ≡ pattern_of w (bit_or c p) (piece_value v u p) ∷ pieces (pattern_of w (bit_or c p) (rest_value v u p)) (pattern_of w d u)
first_words w c v d u p j wide fits fits' in_c power low high =
    let inside : j < w = below_width (free_word c d) p j w power low (omega (arith, and_le_l d (bit_not w128 c))) in
    let parts : (is_one d j ≡ true) × (not (is_one c j) ≡ true) =
    and_parts (is_one d j) (not (is_one c j)) (sym (is_one-free c d j fits (omega arith)) ∙ top_bit (free_word c d) p j power low high)
    in
    let no_c : is_one c j ≡ false = not-true (is_one c j) parts.1 in
    let no_v : is_one v j ≡ false = is_one-within v c j in_c no_c in
    let here : is_one p j ≡ true = is_one-pow p j power in
    pieces_first (letter_at c v) (letter_at d u) (letter_at (bit_or c p) (piece_value v u p)) (letter_at (bit_or c p) (rest_value v u p)) w j (is_one u j) (record {
      within = inside;
      none_above = λ i above l. cut_at c v d u i fits (omega arith) (above_top (free_word c d) p j i power high above);
      any = ap (λ x. letter x (is_one v j)) no_c;
      asks = ap (λ x. letter x (is_one u j)) parts.0;
      flips = piece_at c v u p j ∙ simp (no_c, no_v, here) (there_piece (is_one u j));
      keeps = rest_at c v u p j ∙ simp (no_c, no_v, here) (there_rest (is_one u j));
      same = λ i l apart. piece_at c v u p i ∙ simp (is_one-other p j i power apart) (elsewhere_piece (is_one c i) (is_one v i) (is_one u i));
      same' = λ i l apart. rest_at c v u p i ∙ simp (is_one-other p j i power apart) (elsewhere_rest (is_one c i) (is_one v i) (is_one u i));
    })

flipped_within : (c v u p : Bool) → (v && c) ≡ v → ((v || xor (u && p) p) && (c || p)) ≡ (v || xor (u && p) p)
flipped_within true true u p within = refl
flipped_within true false true true within = refl
flipped_within true false true false within = refl
flipped_within true false false true within = refl
flipped_within true false false false within = refl
flipped_within false true u p within = absurd (false≢true within)
flipped_within false false true true within = refl
flipped_within false false true false within = refl
flipped_within false false false true within = refl
flipped_within false false false false within = refl

kept_within : (c v u p : Bool) → (v && c) ≡ v → ((v || (u && p)) && (c || p)) ≡ (v || (u && p))
kept_within true true u p within = refl
kept_within true false true true within = refl
kept_within true false true false within = refl
kept_within true false false p within = refl
kept_within false true u p within = absurd (false≢true within)
kept_within false false true true within = refl
kept_within false false true false within = refl
kept_within false false false p within = refl

pub piece-within : (c v u p : ℕ) → bit_and v c ≡ v → bit_and (piece_value v u p) (bit_or c p) ≡ piece_value v u p
piece-within c v u p in_c =
    same_words _ _ (λ i.
    is_one-and (piece_value v u p) (bit_or c p) i
    ∙ ap (λ x. x && is_one (bit_or c p) i) (piece_bit v u p i)
    ∙ ap (λ x. (is_one v i || xor (is_one u i && is_one p i) (is_one p i)) && x) (is_one-or c p i)
    ∙ flipped_within (is_one c i) (is_one v i) (is_one u i) (is_one p i) (within_at v c i in_c)
    ∙ sym (piece_bit v u p i))

pub rest-within : (c v u p : ℕ) → bit_and v c ≡ v → bit_and (rest_value v u p) (bit_or c p) ≡ rest_value v u p
rest-within c v u p in_c =
    same_words _ _ (λ i.
    is_one-and (rest_value v u p) (bit_or c p) i
    ∙ ap (λ x. x && is_one (bit_or c p) i) (rest_bit v u p i)
    ∙ ap (λ x. (is_one v i || (is_one u i && is_one p i)) && x) (is_one-or c p i)
    ∙ kept_within (is_one c i) (is_one v i) (is_one u i) (is_one p i) (within_at v c i in_c)
    ∙ sym (rest_bit v u p i))

pub care-lt : (w c d p : ℕ) → c < 2 ^ w → d < 2 ^ w → p ≤ free_word c d → bit_or c p < 2 ^ w
care-lt w c d p fits fits' low = or_lt w c p fits (omega (arith, and_le_l d (bit_not w128 c)))
