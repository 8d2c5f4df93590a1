-- The headers that a rewrite takes into a pattern, in words of bits.
use Rattle.std.proofs.Common.{◌≡◌, ◌≢◌, ℕ, zero, suc, ◌-◌, ◌<◌, ◌≤◌, ◌^◌, Bool, true, false, not, ◌&&◌, ◌||◌, if◌then◌else◌, List, length, get_or, inl, inr, refl, sym, ap, ◌∙◌, arith, bit_and, bit_or, bit_xor}
use Rattle.std.specs.Int.{bit_not, w128}
use Rattle.std.proofs.Math.Nat.{pow-le-pow_right}
use Rattle.std.proofs.lemmas.Nat.{and_le_l, and_le_r, or_lt}
use Rattle.std.proofs.lemmas.Bool.{false≢true, false_from_ne_true, eqb-true, cases_eq, and_parts, or_right}
use Rattle.network_model.specs.Bits.{Header, Bit, Pattern, letter_takes, matches}
use Rattle.network_model.specs.Rewrites.{Set, Old, Rewrite, bit_of, rewritten}
use Rattle.ternary_bits.specs.Words.{is_one, places, letter_at, pattern_of, item_at, rewrite_of, AreRewrite, Takes}
use Rattle.ternary_bits.specs.Inverses.{is_one-and}
use Rattle.ternary_bits.proofs.Places.{places-of_list}
use Rattle.ternary_bits.proofs.Walking.{Walks, walk_start, walk_place, walk_step}
use Rattle.ternary_bits.proofs.Words.{xor, is_one-or, is_one-xor, is_one-not, is_one-zero, same_words_below, within_at}
use Rattle.ternary_bits.proofs.Matching.{letter, all_below, all_below-at, all_below-from, all_below-same, is_zero, matches-places, length-pattern_of}
use Rattle.ternary_bits.proofs.Rewriting.{old_bit, unmoved_bit, moved_bit, rewritten-places, length-rewrite_of}

-- words of a pattern of the same width
pub same_pattern : (w s v w' c u : ℕ) (from : List ℕ) (r : Rewrite) (p : Pattern) → rewrite_of w s v from ≡ r → pattern_of w' c u ≡ p → length r ≡ length p
    → (w' ≡ w) × (pattern_of w c u ≡ p)
same_pattern w s v w' c u from r p view view' widths =
    let same : w' ≡ w = sym (length-pattern_of w' c u p view') ∙ sym widths ∙ length-rewrite_of w s v from r view in
    (same, ap (λ k. pattern_of k c u) (sym same) ∙ view')

-- ---- tests at the places below w

-- one more place is tested
all_below-one : (f g : ℕ → Bool) (w p : ℕ) → p < w → ((i : ℕ) → i < w → i ≢ p → g i ≡ f i) → f p ≡ true → (all_below f w && g p) ≡ all_below g w
all_below-one f g zero p l others free = absurd (omega arith)
all_below-one f g (suc w) p l others free =
    elim (cases_eq p w) as (λ _. (all_below f (suc w) && g p) ≡ all_below g (suc w)) [
      | inl last ↦
          let below : all_below g w ≡ all_below f w = all_below-same g f w (λ i k. others i (omega arith) (λ same. omega arith)) in
          ap (λ x. (x && all_below f w) && g p) (ap f (sym last) ∙ free)
          ∙ ap (λ k. all_below f w && g k) last
          ∙ both_ways_round (all_below f w) (g w)
          ∙ ap (λ x. g w && x) (sym below)
      | inr apart ↦
          let here : g w ≡ f w = others w (omega arith) (λ same. apart (sym same)) in
          let below : (all_below f w && g p) ≡ all_below g w = all_below-one f g w p (omega arith) (λ i k ne. others i (omega arith) ne) free in
          and_regroup (f w) (all_below f w) (g p) ∙ ap (λ x. x && (all_below f w && g p)) (sym here) ∙ ap (λ x. g w && x) below
    ]
  where
    both_ways_round : (a b : Bool) → ((true && a) && b) ≡ (b && a)
    both_ways_round true true = refl
    both_ways_round true false = refl
    both_ways_round false true = refl
    both_ways_round false false = refl

    and_regroup : (a b c : Bool) → ((a && b) && c) ≡ (a && (b && c))
    and_regroup true b c = refl
    and_regroup false b c = refl

-- one place alone is tested
all_below-alone : (f : ℕ → Bool) (w p : ℕ) → p < w → ((i : ℕ) → i < w → i ≢ p → f i ≡ true) → all_below f w ≡ f p
all_below-alone f zero p l others = absurd (omega arith)
all_below-alone f (suc w) p l others =
    elim (cases_eq p w) as (λ _. all_below f (suc w) ≡ f p) [
      | inl last ↦
          ap (λ x. f w && x) (all_below-from f w (λ i k. others i (omega arith) (λ same. omega arith))) ∙ and_yes (f w) ∙ ap f (sym last)
      | inr apart ↦
          ap (λ x. x && all_below f w) (others w (omega arith) (λ same. apart (sym same)))
          ∙ all_below-alone f w p (omega arith) (λ i k ne. others i (omega arith) ne)
    ]
  where
    and_yes : (a : Bool) → (a && true) ≡ a
    and_yes true = refl
    and_yes false = refl

-- ---- the pattern that asks for one bit

pub takes_old : (w c u : ℕ) (h : Header) → length h ≡ w → matches (pattern_of w c u) h ≡ all_below (λ i. letter_takes (letter_at c u i) (old_bit h w i)) w
takes_old w c u h width =
    let bits : h ≡ places (old_bit h w) w = places-of_list h false ∙ ap (λ k. places (old_bit h k) k) width in
    ap (matches (pattern_of w c u)) bits ∙ matches-places (letter_at c u) (old_bit h w) w

-- words that have a bit at one place alone
pub record AsksAt (w place care value : ℕ) (bit : Bool) : Type 0 where
  pub inside : place < w
  pub narrow : w ≤ 128
  pub asks : is_one care place ≡ true
  pub no_more : (i : ℕ) → i < 128 → i ≢ place → is_one care i ≡ is_one 0 i
  pub bit_is : is_one value place ≡ bit
  pub no_other : (i : ℕ) → i < 128 → i ≢ place → is_one value i ≡ is_one 0 i
  pub care_fits : care < 2 ^ w
  pub value_fits : value < 2 ^ w

pub asked_within : (w place care value : ℕ) (bit : Bool) → AsksAt w place care value bit → bit_and value care ≡ value
asked_within w place care value bit asked =
    let narrow = asked.narrow in
    let fits = asked.value_fits in
    same_words_below w _ _ (omega (arith, and_le_l value care)) asked.value_fits (λ i l.
    is_one-and value care i
    ∙ elim (cases_eq i place) as (λ _. (is_one value i && is_one care i) ≡ is_one value i) [
      | inl same ↦ ap (λ x. is_one value i && x) (ap (is_one care) same ∙ asked.asks) ∙ and_yes (is_one value i)
      | inr apart ↦
          let none : is_one value i ≡ false = asked.no_other i (omega arith) apart ∙ is_one-zero i in
          ap (λ x. x && is_one care i) none ∙ sym none
    ])
  where
    and_yes : (a : Bool) → (a && true) ≡ a
    and_yes true = refl
    and_yes false = refl

pub asked_takes : (w place care value : ℕ) (bit : Bool) → AsksAt w place care value bit → (h : Header) → length h ≡ w
    → matches (pattern_of w care value) h ≡ letter_takes (Bit bit) (old_bit h w place)
asked_takes w place care value bit asked h width =
    let narrow = asked.narrow in
    takes_old w care value h width
    ∙ all_below-alone _ w place asked.inside (λ i l apart.
    ap (λ c. letter_takes (letter c (is_one value i)) (old_bit h w i)) (asked.no_more i (omega arith) apart ∙ is_one-zero i))
    ∙ ap (λ c. letter_takes (letter c (is_one value place)) (old_bit h w place)) asked.asks
    ∙ ap (λ b. letter_takes (Bit b) (old_bit h w place)) asked.bit_is

-- ---- the headers that a rewrite takes into a pattern

abbrev pub clash_word : ℕ → ℕ → ℕ → ℕ → ℕ
clash_word s v c u = bit_and (bit_and (bit_xor v u) s) c

abbrev pub less : ℕ → ℕ → ℕ
less c s = bit_and c (bit_not w128 s)

clash-bit : (s v c u i : ℕ) → is_one (clash_word s v c u) i ≡ ((xor (is_one v i) (is_one u i) && is_one s i) && is_one c i)
clash-bit s v c u i =
    is_one-and (bit_and (bit_xor v u) s) c i
    ∙ ap (λ x. x && is_one c i) (is_one-and (bit_xor v u) s i ∙ ap (λ x. x && is_one s i) (is_one-xor v u i))

less-bit : (c s i : ℕ) → s < 2 ^ 128 → i < 128 → is_one (less c s) i ≡ (is_one c i && not (is_one s i))
less-bit c s i fits l = is_one-and c (bit_not w128 s) i ∙ ap (λ x. is_one c i && x) (is_one-not s i fits l)

-- whether the pattern takes what a place gets
abbrev pub takes_at : (w s v : ℕ) → List ℕ → ℕ → ℕ → Header → ℕ → Bool
takes_at w s v from c u h i = letter_takes (letter_at c u i) (bit_of h (item_at w s v from i))

pub taken : (w s v c u : ℕ) (from : List ℕ) (r : Rewrite) (p : Pattern) (h : Header) → rewrite_of w s v from ≡ r → pattern_of w c u ≡ p
    → matches p (rewritten r h) ≡ all_below (takes_at w s v from c u h) w
taken w s v c u from r p h view view' =
    ap (λ t. matches p (rewritten t h)) (sym view)
    ∙ ap (λ q. matches q (rewritten (rewrite_of w s v from) h)) (sym view')
    ∙ ap (matches (pattern_of w c u)) (rewritten-places w s v from h)
    ∙ matches-places (letter_at c u) (λ i. bit_of h (item_at w s v from i)) w

source : (c u s v old : Bool) → (v && s) ≡ v → not ((xor v u && s) && c) ≡ true
    → letter_takes (letter (c && not s) (u && not s)) old ≡ letter_takes (letter c u) ((old && not s) || v)
source true u false true old in_s free = absurd (false≢true in_s)
source true true false false true in_s free = refl
source true true false false false in_s free = refl
source true false false false true in_s free = refl
source true false false false false in_s free = refl
source true true true true true in_s free = refl
source true true true true false in_s free = refl
source true true true false old in_s free = absurd (false≢true free)
source true false true true old in_s free = absurd (false≢true free)
source true false true false true in_s free = refl
source true false true false false in_s free = refl
source false u s v old in_s free = refl

not_or : (c s : Bool) → (c && not (s || false)) ≡ (c && not s)
not_or c true = refl
not_or c false = refl

none_asked : (c s u : Bool) (old : Bool) → letter_takes (letter (c && not (s || true)) u) old ≡ true
none_asked true true u old = refl
none_asked true false u old = refl
none_asked false s u old = refl

any_taken : (c u bit : Bool) → ((true && c) || letter_takes (letter c u) bit) ≡ true
any_taken true u bit = refl
any_taken false u bit = refl

-- the test of a place that moves is put off; the others are those of letters
put_off : (c u s v m old bit : Bool) → (v && s) ≡ v → not ((xor v u && s) && c) ≡ true → (m ≡ false → bit ≡ ((old && not s) || v))
    → letter_takes (letter (c && not (s || m)) (u && not (s || m))) old ≡ ((m && c) || letter_takes (letter c u) bit)
put_off c u s v true old bit in_s free is = none_asked c s (u && not (s || true)) old ∙ sym (any_taken c u bit)
put_off c u s v false old bit in_s free is =
    ap (λ x. letter_takes (letter x (u && not (s || false))) old) (not_or c s)
    ∙ ap (λ x. letter_takes (letter (c && not s) x) old) (not_or u s)
    ∙ source c u s v old in_s free
    ∙ ap (letter_takes (letter c u)) (sym (is refl))

-- the headers that match so far: the tests at the places to come are put off
abbrev pub Matched : (w s v : ℕ) → List ℕ → ℕ → ℕ → ℕ → Pattern → Type 0
Matched w s v from c u left sources =
    (h : Header) → length h ≡ w → matches sources h ≡ all_below (λ i. is_one left i || takes_at w s v from c u h i) w

abbrev Nothing : ℕ → Type 0
Nothing i = Unit {0}

-- the places that are still to come are among those that move and are asked for
abbrev pub ToCome : ℕ → ℕ → ℕ → Type 0
ToCome whole left w = Walks whole left w Nothing

pub before_start : (w s v m c u : ℕ) (from : List ℕ) → AreRewrite w s v m from → c < 2 ^ w → clash_word s v c u ≡ 0
    → ToCome (bit_and m c) (bit_and m c) w × Matched w s v from c u (bit_and m c) (pattern_of w (less c (bit_or s m)) (less u (bit_or s m)))
before_start w s v m c u from ok fits free =
    let wide : 2 ^ w ≤ 2 ^ 128 = pow-le-pow_right {n = 2} (omega arith) ok.high in
    let narrow = ok.high in
    let both : bit_or s m < 2 ^ w = or_lt w s m ok.set_fits ok.moved_fits in (
      walk_start (bit_and m c) w Nothing (omega (arith, and_le_r m c)) (λ i l none. tt),
      λ h width.
          takes_old w (less c (bit_or s m)) (less u (bit_or s m)) h width
          ∙ all_below-same _ _ w (λ i l.
          let no : not ((xor (is_one v i) (is_one u i) && is_one s i) && is_one c i) ≡ true =
          ap not (sym (clash-bit s v c u i) ∙ ap (λ x. is_one x i) free ∙ is_one-zero i)
          in
          ap (λ x. letter_takes (letter x (is_one (less u (bit_or s m)) i)) (old_bit h w i))
          (less-bit c (bit_or s m) i (omega arith) (omega arith) ∙ ap (λ x. is_one c i && not x) (is_one-or s m i))
          ∙ ap (λ x. letter_takes (letter (is_one c i && not (is_one s i || is_one m i)) x) (old_bit h w i))
          (less-bit u (bit_or s m) i (omega arith) (omega arith) ∙ ap (λ x. is_one u i && not x) (is_one-or s m i))
          ∙ put_off (is_one c i) (is_one u i) (is_one s i) (is_one v i) (is_one m i) (old_bit h w i) (bit_of h (item_at w s v from i)) (within_at v s i ok.value_within) no
          (unmoved_bit w s v m from h i ok l)
          ∙ ap (λ x. x || takes_at w s v from c u h i) (sym (is_one-and m c i))),
    )

less_both : (c u s : Bool) → (u && c) ≡ u → ((u && not s) && (c && not s)) ≡ (u && not s)
less_both true true true in_c = refl
less_both true true false in_c = refl
less_both true false s in_c = refl
less_both false true s in_c = absurd (false≢true in_c)
less_both false false s in_c = refl

pub less-within : (w c u s : ℕ) → w ≤ 128 → c < 2 ^ w → s < 2 ^ 128 → bit_and u c ≡ u → bit_and (less u s) (less c s) ≡ less u s
less-within w c u s wide fits fits' in_c =
    let small : u < 2 ^ w = omega (arith, and_le_r u c) in
    let made : less u s < 2 ^ w = omega (arith, and_le_l u (bit_not w128 s)) in
    same_words_below w _ _ (omega (arith, and_le_l (less u s) (less c s))) made (λ i l.
    is_one-and (less u s) (less c s) i
    ∙ ap (λ x. x && is_one (less c s) i) (less-bit u s i fits' (omega arith))
    ∙ ap (λ x. (is_one u i && not (is_one s i)) && x) (less-bit c s i fits' (omega arith))
    ∙ less_both (is_one c i) (is_one u i) (is_one s i) (within_at u c i in_c)
    ∙ sym (less-bit u s i fits' (omega arith)))

-- a constant of the rewrite contradicts the pattern
no_clash : (c u s v bit : Bool) → (s ≡ true → bit ≡ v) → letter_takes (letter c u) bit ≡ true → not ((xor v u && s) && c) ≡ true
no_clash c u false true bit set takes = no_set u c
  where
    no_set : (u c : Bool) → not ((not u && false) && c) ≡ true
    no_set true c = refl
    no_set false c = refl
no_clash c true false false bit set takes = refl
no_clash c false false false bit set takes = refl
no_clash false true true true bit set takes = refl
no_clash false false true true bit set takes = refl
no_clash false true true false bit set takes = refl
no_clash false false true false bit set takes = refl
no_clash true true true true bit set takes = refl
no_clash true false true false bit set takes = refl
no_clash true true true false bit set takes = absurd (false≢true (sym (set refl) ∙ takes))
no_clash true false true true bit set takes = absurd (false≢true (sym (ap not (set refl)) ∙ takes))

set_bit_is : (h : Header) (s v : Bool) (place : ℕ) → s ≡ true → bit_of h (if s then Set v else Old place) ≡ v
set_bit_is h true v place one = refl
set_bit_is h false v place one = absurd (false≢true one)

pub clash_words : (w s v c u : ℕ) (from : List ℕ) (r : Rewrite) (p : Pattern) → c < 2 ^ w → rewrite_of w s v from ≡ r → pattern_of w c u ≡ p
    → (clash_word s v c u ≡ 0 → ⊥) → (h : Header) → matches p (rewritten r h) ≡ false
clash_words w s v c u from r p fits view view' clash h =
    false_from_ne_true _ (λ takes.
    let all : all_below (takes_at w s v from c u h) w ≡ true = sym (taken w s v c u from r p h view view') ∙ takes in
    let none : all_below (λ i. not (is_one (clash_word s v c u) i)) w ≡ true =
    all_below-from _ w (λ i l.
    ap not (clash-bit s v c u i)
    ∙ no_clash (is_one c i) (is_one u i) (is_one s i) (is_one v i) (bit_of h (item_at w s v from i))
    (set_bit_is h (is_one s i) (is_one v i) _)
    (all_below-at (takes_at w s v from c u h) w i all l))
    in
    let below : clash_word s v c u < 2 ^ w = omega (arith, and_le_r (bit_and (bit_xor v u) s) c) in
    clash (eqb-true (clash_word s v c u) 0 (is_zero (clash_word s v c u) w below ∙ none)))

-- a place to come moves, and the pattern asks for its bit
pub to_come : (w m c left place rest : ℕ) → ToCome (bit_and m c) left w → Takes left place rest → (place < w) × (is_one m place ≡ true) × (is_one c place ≡ true)
to_come w m c left place rest walk takes =
    let at = walk_place (bit_and m c) left w place rest Nothing walk takes in
    let parts = and_parts (is_one m place) (is_one c place) (sym (is_one-and m c place) ∙ at.1) in
    (at.0, parts.0, parts.1)

-- what the pattern asks of the place that moves is asked of the place that its bit comes from
pub asked_source : (w s v m c u left place rest : ℕ) (from : List ℕ) (h : Header) → AreRewrite w s v m from → ToCome (bit_and m c) left w → Takes left place rest
    → takes_at w s v from c u h place ≡ letter_takes (Bit (is_one u place)) (old_bit h w (w - get_or from place 0))
asked_source w s v m c u left place rest from h ok walk takes =
    let at = to_come w m c left place rest walk takes in
    ap (λ x. letter_takes (letter x (is_one u place)) (bit_of h (item_at w s v from place))) at.2
    ∙ ap (letter_takes (Bit (is_one u place))) (moved_bit w s v m from h place ok at.1)

pub before_step : (w s v m c u left place rest : ℕ) (from : List ℕ) (sources asked both : Pattern) → AreRewrite w s v m from → ToCome (bit_and m c) left w → Takes left place rest
    → Matched w s v from c u left sources
    → ((h : Header) → length h ≡ w → matches asked h ≡ letter_takes (Bit (is_one u place)) (old_bit h w (w - get_or from place 0)))
    → ((h : Header) → matches both h ≡ (matches sources h && matches asked h))
    → ToCome (bit_and m c) rest w × Matched w s v from c u rest both
before_step w s v m c u left place rest from sources asked both ok walk takes so_far asks meets =
    let narrow = ok.high in
    let at = to_come w m c left place rest walk takes in (
      walk_step (bit_and m c) left w place rest Nothing Nothing ok.high walk takes (λ i l apart done. tt) tt,
      λ h width.
          meets h
          ∙ ap (λ x. x && matches asked h) (so_far h width)
          ∙ ap (λ x. all_below (λ i. is_one left i || takes_at w s v from c u h i) w && x)
          (asks h width ∙ sym (asked_source w s v m c u left place rest from h ok walk takes) ∙ sym (ap (λ x. x || takes_at w s v from c u h place) takes.gone))
          ∙ all_below-one (λ i. is_one left i || takes_at w s v from c u h i) (λ i. is_one rest i || takes_at w s v from c u h i) w place at.0
          (λ i l apart. ap (λ x. x || takes_at w s v from c u h i) (takes.others i (omega arith) apart))
          (ap (λ x. x || takes_at w s v from c u h place) takes.here),
    )

pub before_end : (w s v c u left : ℕ) (from : List ℕ) (r : Rewrite) (p sources : Pattern) → rewrite_of w s v from ≡ r → pattern_of w c u ≡ p
    → Matched w s v from c u left sources → left ≡ 0 → (h : Header) → length h ≡ w → matches sources h ≡ matches p (rewritten r h)
before_end w s v c u left from r p sources view view' so_far none h width =
    so_far h width
    ∙ all_below-same _ _ w (λ i l. ap (λ x. x || takes_at w s v from c u h i) (ap (λ word. is_one word i) none ∙ is_one-zero i))
    ∙ sym (taken w s v c u from r p h view view')

-- no header has the bit that is asked for, beside those that were asked for before
pub before_none : (w s v m c u left place rest : ℕ) (from : List ℕ) (r : Rewrite) (p sources asked : Pattern) → AreRewrite w s v m from → rewrite_of w s v from ≡ r → pattern_of w c u ≡ p
    → ToCome (bit_and m c) left w → Takes left place rest → Matched w s v from c u left sources
    → ((h : Header) → length h ≡ w → matches asked h ≡ letter_takes (Bit (is_one u place)) (old_bit h w (w - get_or from place 0)))
    → ((h : Header) → (matches sources h && matches asked h) ≡ false)
    → (h : Header) → length h ≡ w → matches p (rewritten r h) ≡ false
before_none w s v m c u left place rest from r p sources asked ok view view' walk takes so_far asks apart h width =
    false_from_ne_true _ (λ matched.
    let at = to_come w m c left place rest walk takes in
    let all : all_below (takes_at w s v from c u h) w ≡ true = sym (taken w s v c u from r p h view view') ∙ matched in
    let yes : matches sources h ≡ true =
    so_far h width ∙ all_below-from _ w (λ i l. or_right (is_one left i) (takes_at w s v from c u h i) (all_below-at (takes_at w s v from c u h) w i all l))
    in
    let yes' : matches asked h ≡ true =
    asks h width ∙ sym (asked_source w s v m c u left place rest from h ok walk takes) ∙ all_below-at (takes_at w s v from c u h) w place all at.0
    in
    false≢true (sym (apart h) ∙ ap (λ x. x && matches asked h) yes ∙ yes'))
