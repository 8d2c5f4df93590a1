-- The leftmost place that a pattern leaves free and at which another asks for a bit, in words; and a letter set, in words.
use Rattle.std.proofs.Common.{◌≡◌, ◌≢◌, ℕ, zero, suc, ◌+◌, ◌*◌, ◌<◌, ◌≤◌, ◌^◌, Bool, true, false, not, ◌&&◌, inl, inr, ◌∷◌, set, Option, Some, None, refl, sym, ap, ◌∙◌, arith, bit_and}
use Rattle.std.specs.Int.{bit_not, w128}
use Rattle.std.specs.Option.{option_map}
use Rattle.std.proofs.lemmas.Nat.{and_le_l}
use Rattle.std.proofs.lemmas.Bool.{cases_eq, and_parts, and_from}
use Rattle.network_model.specs.Bits.{Letter, Bit, Any, Pattern}
use Rattle.ternary_bits.specs.Asking.{asks, first_asked}
use Rattle.ternary_bits.specs.Words.{is_one, places, letter_at, pattern_of}
use Rattle.ternary_bits.specs.Inverses.{is_one-and, places-same}
use Rattle.ternary_bits.proofs.Words.{is_one-zero, same_words_below, within_at}
use Rattle.ternary_bits.proofs.Matching.{letter}
use Rattle.ternary_bits.proofs.Cutting.{is_cut, free_word, cut_letters, cut_at, is_one-free, top_bit, above_top, below_width}

asks_cut : (l m : Letter) → asks l m ≡ is_cut l m
asks_cut Any Any = refl
asks_cut Any (Bit b) = refl
asks_cut (Bit c) m = refl

-- ---- the leftmost place

unasked : (l m : Letter) (ls ms : Pattern) (rest : Option ℕ) → is_cut l m ≡ false → first_asked ls ms ≡ rest → first_asked (l ∷ ls) (m ∷ ms) ≡ option_map (λ place. suc place) rest
unasked l m ls ms rest none below =
    let uncut : asks l m ≡ false = asks_cut l m ∙ none in
    rw uncut (ap (option_map (λ place. suc place)) below)

asked_here : (l m : Letter) (ls ms : Pattern) → is_cut l m ≡ true → first_asked (l ∷ ls) (m ∷ ms) ≡ Some 0
asked_here l m ls ms cut =
    let here : asks l m ≡ true = asks_cut l m ∙ cut in rw here refl

first_none : (l m : ℕ → Letter) (w : ℕ) → ((i : ℕ) → i < w → is_cut (l i) (m i) ≡ false) → first_asked (places l w) (places m w) ≡ None
unfolding places
first_none l m zero none = refl
first_none l m (suc w) none = unasked (l w) (m w) (places l w) (places m w) None (none w (omega arith)) (first_none l m w (λ i below. none i (omega arith)))

first_some : (l m : ℕ → Letter) (w j k : ℕ) → k + suc j ≡ w → is_cut (l j) (m j) ≡ true → ((i : ℕ) → j < i → i < w → is_cut (l i) (m i) ≡ false)
    → first_asked (places l w) (places m w) ≡ Some k
unfolding places
first_some l m zero j k at cut above = absurd (omega arith)
first_some l m (suc w) j zero at cut above =
    let same : j ≡ w = omega arith in asked_here (l w) (m w) (places l w) (places m w) (ap (λ i. is_cut (l i) (m i)) (sym same) ∙ cut)
first_some l m (suc w) j (suc k) at cut above =
    unasked (l w) (m w) (places l w) (places m w) (Some k) (above w (omega arith) (omega arith)) (first_some l m w j k (omega arith) cut (λ i far below. above i far (omega arith)))

pub none_asked : (w c v d u : ℕ) → c < 2 ^ 128 → w ≤ 128 → free_word c d ≡ 0 → first_asked (pattern_of w c v) (pattern_of w d u) ≡ None
none_asked w c v d u fits within none =
    first_none (letter_at c v) (letter_at d u) w (λ i l.
    cut_at c v d u i fits (omega arith) (ap (λ word. is_one word i) none ∙ is_one-zero i))

pub some_asked : (w c v d u j k : ℕ) → w ≤ 128 → c < 2 ^ 128 → d < 2 ^ w → 2 ^ j ≤ free_word c d → free_word c d < 2 * 2 ^ j → k + suc j ≡ w
    → first_asked (pattern_of w c v) (pattern_of w d u) ≡ Some k
some_asked w c v d u j k wide fits fits' low high at =
    let parts : (is_one d j ≡ true) × (not (is_one c j) ≡ true) =
    and_parts (is_one d j) (not (is_one c j)) (sym (is_one-free c d j fits (omega arith)) ∙ top_bit (free_word c d) (2 ^ j) j refl low high)
    in
    first_some (letter_at c v) (letter_at d u) w j k at
    (cut_letters (is_one c j) (is_one v j) (is_one d j) (is_one u j) ∙ and_from (is_one d j) (not (is_one c j)) parts.0 parts.1)
    (λ i above l. cut_at c v d u i fits (omega arith) (above_top (free_word c d) (2 ^ j) j i refl high above))

pub top_inside : (w c d j : ℕ) → d < 2 ^ w → 2 ^ j ≤ free_word c d → j < w
top_inside w c d j fits low = below_width (free_word c d) (2 ^ j) j w refl low (omega (arith, and_le_l d (bit_not w128 c)))

-- ---- a letter set

set_places : (f g : ℕ → Letter) (w j k : ℕ) (x : Letter) → k + suc j ≡ w → g j ≡ x → ((i : ℕ) → i < w → i ≢ j → g i ≡ f i) → places g w ≡ set (places f w) k x
unfolding places
set_places f g zero j k x at here others = absurd (omega arith)
set_places f g (suc w) j zero x at here others =
    let same : j ≡ w = omega arith in
    let first : g w ≡ x = ap g (sym same) ∙ here in
    let below : places g w ≡ places f w = places-same g f w (λ i l. others i (omega arith) (λ e. omega arith)) in
    cc
set_places f g (suc w) j (suc k) x at here others =
    let first : g w ≡ f w = others w (omega arith) (λ e. omega arith) in
    let below : places g w ≡ set (places f w) k x = set_places f g w j k x (omega arith) here (λ i l apart. others i (omega arith) apart) in
    cc

-- words that ask for one bit more, or another, at one place
pub record SetsAt (w j care value care' value' : ℕ) (bit : Bool) : Type 0 where
  pub inside : j < w
  pub narrow : w ≤ 128
  pub asks : is_one care' j ≡ true
  pub no_more : (i : ℕ) → i < 128 → i ≢ j → is_one care' i ≡ is_one care i
  pub bit_is : is_one value' j ≡ bit
  pub no_other : (i : ℕ) → i < 128 → i ≢ j → is_one value' i ≡ is_one value i
  pub value_fits : value' < 2 ^ w
  pub within : bit_and value care ≡ value

pub set_within : (w j care value care' value' : ℕ) (bit : Bool) → SetsAt w j care value care' value' bit → bit_and value' care' ≡ value'
set_within w j care value care' value' bit sets =
    let narrow = sets.narrow in
    let fits = sets.value_fits in
    same_words_below w _ _ (omega (arith, and_le_l value' care')) sets.value_fits (λ i l.
    is_one-and value' care' i
    ∙ elim (cases_eq i j) as (λ _. (is_one value' i && is_one care' i) ≡ is_one value' i) [
      | inl same ↦ ap (λ x. is_one value' i && x) (ap (is_one care') same ∙ sets.asks) ∙ and_yes (is_one value' i)
      | inr apart ↦
          rw (sets.no_other i (omega arith) apart, sets.no_more i (omega arith) apart) (within_at value care i sets.within)
    ])
  where
    and_yes : (a : Bool) → (a && true) ≡ a
    and_yes true = refl
    and_yes false = refl

pub set_words : (w j k care value care' value' : ℕ) (bit : Bool) → SetsAt w j care value care' value' bit → k + suc j ≡ w
    → pattern_of w care' value' ≡ set (pattern_of w care value) k (Bit bit)
set_words w j k care value care' value' bit sets at =
    let narrow = sets.narrow in
    set_places (letter_at care value) (letter_at care' value') w j k (Bit bit) at
    (ap (λ c. letter c (is_one value' j)) sets.asks ∙ ap (λ b. Bit b) sets.bit_is)
    (λ i l apart.
    ap (λ c. letter c (is_one value' i)) (sets.no_more i (omega arith) apart)
    ∙ ap (λ v. letter (is_one care i) v) (sets.no_other i (omega arith) apart))
