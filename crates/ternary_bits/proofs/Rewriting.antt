-- What rewrites do to headers, in words of bits.
use Rattle.std.proofs.Common.{◌≡◌, ◌≢◌, ℕ, zero, suc, ◌+◌, ◌-◌, ◌<◌, ◌≤◌, ◌^◌, Bool, true, false, not, ◌&&◌, ◌||◌, if◌then◌else◌, eqb, List, map, length, get_or, replicate, refl, sym, ap, subst, ◌∙◌, arith, bit_and, bit_or}
use Rattle.std.specs.Int.{bit_not, w128}
use Rattle.std.proofs.Math.Nat.{pow-le-pow_right}
use Rattle.std.proofs.lemmas.Nat.{and_le_l, and_le_r, or_lt, pow_pos}
use Rattle.std.proofs.lemmas.List.{length-replicate}
use Rattle.std.proofs.lemmas.Bool.Decides.{nat_tests}
use Rattle.std.proofs.lemmas.Bool.{false≢true, eqb-true, not-false, ne_eqb, eq-eqb}
use Rattle.network_model.specs.Bits.{Header, number_of}
use Rattle.network_model.specs.Rewrites.{Item, Set, Old, Rewrite, bit_of, rewritten, kept, LiesWithin, AreWithin}
use Rattle.ternary_bits.specs.Words.{is_one, places, header_of, old_place, item_at, rewrite_of, AreRewrite, Takes, is_set, set_bit, moves_of, sources_of}
use Rattle.ternary_bits.specs.Inverses.{length-places, places-same, map-places, is_one-and, get_or-places, set_back, bits_back, moved_back, sources_back}
use Rattle.ternary_bits.proofs.Headers.{header_from}
use Rattle.ternary_bits.proofs.Places.{places-range, All-places}
use Rattle.ternary_bits.proofs.Walking.{Walks, walk_start, walk_place, walk_step, walk_end}
use Rattle.ternary_bits.proofs.Words.{is_one-or, is_one-not, is_one-zero, within_at}

pub length-rewrite_of : (w s v : ℕ) (from : List ℕ) (r : Rewrite) → rewrite_of w s v from ≡ r → length r ≡ w
length-rewrite_of w s v from r view = ap length (sym view) ∙ length-places (item_at w s v from) w

-- the item at a place, counted from the right
pub get_or-rewrite_of : (w s v : ℕ) (from : List ℕ) (r : Rewrite) (d : Item) (i : ℕ) → rewrite_of w s v from ≡ r → i < w → get_or r (w - 1 - i) d ≡ item_at w s v from i
get_or-rewrite_of w s v from r d i view l =
    let at : w - 1 - (w - 1 - i) ≡ i = omega arith in
    ap (λ items. get_or items (w - 1 - i) d) (sym view) ∙ get_or-places (item_at w s v from) w (w - 1 - i) d (omega arith) ∙ ap (item_at w s v from) at

-- ---- the items of places that move and of those that don't

abbrev pub item : Bool → Bool → ℕ → Item
item s v place = if s then Set v else Old place

pub unmoved : (w s v m : ℕ) (from : List ℕ) (i : ℕ) → AreRewrite w s v m from → is_one m i ≡ false → get_or from i 0 ≡ 0
unmoved w s v m from i ok none = eqb-true (get_or from i 0) 0 (not-false _ (sym (ok.marks i) ∙ none))

pub unmoved_item : (w s v : ℕ) (from : List ℕ) (i : ℕ) → get_or from i 0 ≡ 0 → item_at w s v from i ≡ item (is_one s i) (is_one v i) (w - i)
unmoved_item w s v from i none = ap (λ n. item (is_one s i) (is_one v i) (old_place (w - i) n)) none

pub moves_from : (w s v m : ℕ) (from : List ℕ) (i : ℕ) → AreRewrite w s v m from → is_one m i ≡ true → (get_or from i 0 ≡ 0 → ⊥)
moves_from w s v m from i ok one none =
    false≢true (sym (ap not (eq-eqb (get_or from i 0) 0 none)) ∙ sym (ok.marks i) ∙ one)

old_moved : (s v : Bool) (own source : ℕ) → (s ≡ true → ⊥) → (source ≡ 0 → ⊥) → (if s then Set v else Old (old_place own source)) ≡ Old source
old_moved true v own source unset some = absurd (unset refl)
old_moved false v own source unset some = ap (λ b. Old (if b then own else source)) (ne_eqb source 0 some)

pub moved_item : (w s v m : ℕ) (from : List ℕ) (i : ℕ) → AreRewrite w s v m from → is_one m i ≡ true → item_at w s v from i ≡ Old (get_or from i 0)
moved_item w s v m from i ok one =
    let some = moves_from w s v m from i ok one in
    old_moved (is_one s i) (is_one v i) (w - i) (get_or from i 0) (λ is_set. some (ok.apart i is_set)) some

old_place_within : (w own source : ℕ) → 1 ≤ own → own ≤ w → source ≤ w → (1 ≤ old_place own source) × (old_place own source ≤ w)
old_place_within w own source low high inside = grind (arith, nat_tests)

item_within : (w : ℕ) (s v : Bool) (own source : ℕ) → 1 ≤ own → own ≤ w → source ≤ w → LiesWithin w (if s then Set v else Old (old_place own source))
item_within w true v own source low high inside = tt
item_within w false v own source low high inside = old_place_within w own source low high inside

pub rewrite_within : (w s v m : ℕ) (from : List ℕ) (r : Rewrite) → AreRewrite w s v m from → rewrite_of w s v from ≡ r → AreWithin w r
rewrite_within w s v m from r ok view =
    let within : AreWithin w (rewrite_of w s v from) =
    All-places (LiesWithin w) (item_at w s v from) w (λ i l. item_within w (is_one s i) (is_one v i) (w - i) (get_or from i 0) (omega arith) (omega arith) (ok.within i))
    in
    let P : Rewrite → Type 0 = AreWithin w in
    subst P view within

-- ---- the rewrites of letters

abbrev pub zeros : ℕ → List ℕ
zeros n = replicate n 0

pub zeros_at : (n i : ℕ) → get_or {A = ℕ} (zeros n) i 0 ≡ 0
zeros_at zero i = refl
zeros_at (suc n) zero = refl
zeros_at (suc n) (suc i) = zeros_at n i

pub letters_ok : (w s v : ℕ) → 1 ≤ w → w ≤ 128 → s < 2 ^ w → bit_and v s ≡ v → AreRewrite w s v 0 (zeros 128)
letters_ok w s v low high fits within = record {
  low = low;
  high = high;
  set_fits = fits;
  value_within = within;
  moved_fits = pow_pos w;
  size = length-replicate {A = ℕ} 128 0;
  marks = λ i. is_one-zero i ∙ ap (λ n. not (eqb n 0)) (sym (zeros_at 128 i));
  apart = λ i one. zeros_at 128 i;
  within = λ i. omega (arith, zeros_at 128 i);
  elsewhere = λ i l same. omega (arith, zeros_at 128 i);
}

pub letters_of : (w s v : ℕ) → rewrite_of w s v (zeros 128) ≡ places (λ i. item (is_one s i) (is_one v i) (w - i)) w
letters_of w s v = places-same _ _ w (λ i l. unmoved_item w s v (zeros 128) i (zeros_at 128 i))

-- where nothing moves
pub still_items : (w s v m : ℕ) (from : List ℕ) → AreRewrite w s v m from → m ≡ 0 → rewrite_of w s v from ≡ places (λ i. item (is_one s i) (is_one v i) (w - i)) w
still_items w s v m from ok none =
    places-same _ _ w (λ i l. unmoved_item w s v from i (unmoved w s v m from i ok (ap (λ k. is_one k i) none ∙ is_one-zero i)))

pub keep_words : (w : ℕ) → rewrite_of w 0 0 (zeros 128) ≡ kept w
keep_words w =
    letters_of w 0 0
    ∙ places-same _ _ w (λ i l.
    let same : w - i ≡ 1 + w - 1 - i = omega arith in
    ap (λ s. if s then Set (is_one 0 i) else Old (w - i)) (is_one-zero i) ∙ ap Old same)
    ∙ sym (map-places Old (λ i. 1 + w - 1 - i) w)
    ∙ ap (map Old) (sym (places-range 1 w))

-- ---- one header

new_bit : (h : Header) (s v : Bool) (place : ℕ) (old : Bool) → get_or h (place - 1) false ≡ old → (v && s) ≡ v
    → bit_of h (item s v place) ≡ ((old && not s) || v)
new_bit h true v place true is in_s = refl
new_bit h true v place false is in_s = refl
new_bit h false true place old is in_s = absurd (false≢true in_s)
new_bit h false false place true is in_s = is
new_bit h false false place false is in_s = is

-- the bits of a header of width w, from the right
abbrev pub old_bit : Header → ℕ → ℕ → Bool
old_bit h w i = get_or h (w - 1 - i) false

-- what a place gets that doesn't move
pub unmoved_bit : (w s v m : ℕ) (from : List ℕ) (h : Header) (i : ℕ) → AreRewrite w s v m from → i < w → is_one m i ≡ false
    → bit_of h (item_at w s v from i) ≡ ((old_bit h w i && not (is_one s i)) || is_one v i)
unmoved_bit w s v m from h i ok l none =
    let at : w - i - 1 ≡ w - 1 - i = omega arith in
    ap (bit_of h) (unmoved_item w s v from i (unmoved w s v m from i ok none))
    ∙ new_bit h (is_one s i) (is_one v i) (w - i) (old_bit h w i) (ap (λ k. get_or h k false) at) (within_at v s i ok.value_within)

-- and one that moves
pub moved_bit : (w s v m : ℕ) (from : List ℕ) (h : Header) (i : ℕ) → AreRewrite w s v m from → is_one m i ≡ true
    → bit_of h (item_at w s v from i) ≡ old_bit h w (w - get_or from i 0)
moved_bit w s v m from h i ok one =
    let some = moves_from w s v m from i ok one in
    let inside = ok.within i in
    let at : get_or from i 0 - 1 ≡ w - 1 - (w - get_or from i 0) = omega arith in
    ap (bit_of h) (moved_item w s v m from i ok one) ∙ ap (λ k. get_or h k false) at

abbrev pub new_word : ℕ → ℕ → ℕ → ℕ
new_word n s v = bit_or (bit_and n (bit_not w128 s)) v

pub new_word-bit : (n s v i : ℕ) → s < 2 ^ 128 → i < 128 → is_one (new_word n s v) i ≡ ((is_one n i && not (is_one s i)) || is_one v i)
new_word-bit n s v i fits l =
    is_one-or (bit_and n (bit_not w128 s)) v i
    ∙ ap (λ x. x || is_one v i) (is_one-and n (bit_not w128 s) i ∙ ap (λ x. is_one n i && x) (is_one-not s i fits l))

pub new_word-lt : (w n s v : ℕ) → n < 2 ^ w → v < 2 ^ w → new_word n s v < 2 ^ w
new_word-lt w n s v fits fits' = or_lt w (bit_and n (bit_not w128 s)) v (omega (arith, and_le_l n (bit_not w128 s))) fits'

pub old_bits : (w n : ℕ) (h : Header) (i : ℕ) → length h ≡ w → n ≡ number_of h → i < w → old_bit h w i ≡ is_one n i
old_bits w n h i width number l =
    let header : header_of w n ≡ h = header_from h w n width (sym number) in
    let at : w - 1 - (w - 1 - i) ≡ i = omega arith in
    ap (λ k. old_bit k w i) (sym header) ∙ get_or-places (is_one n) w (w - 1 - i) false (omega arith) ∙ ap (is_one n) at

-- the number of the new header, so far
abbrev pub HasBit : (w s v : ℕ) → List ℕ → Header → ℕ → ℕ → Type 0
HasBit w s v from h number i = is_one number i ≡ bit_of h (item_at w s v from i)

pub apply_start : (w s v m n : ℕ) (from : List ℕ) (h : Header) → AreRewrite w s v m from → length h ≡ w → n ≡ number_of h → n < 2 ^ w
    → Walks m m w (HasBit w s v from h (new_word n s v)) × (new_word n s v < 2 ^ w)
apply_start w s v m n from h ok width number fits =
    let wide : 2 ^ w ≤ 2 ^ 128 = pow-le-pow_right {n = 2} (omega arith) ok.high in
    let set_fits = ok.set_fits in
    let wide_enough = ok.high in
    let small : v < 2 ^ w = omega (arith, and_le_r v s, ok.value_within) in (
      walk_start m w _ ok.moved_fits
          (λ i l none.
          new_word-bit n s v i (omega arith) (omega arith)
          ∙ ap (λ x. (x && not (is_one s i)) || is_one v i) (sym (old_bits w n h i width number l))
          ∙ sym (unmoved_bit w s v m from h i ok l none)),
      new_word-lt w n s v fits small,
    )

pub source_below : (w s v m : ℕ) (from : List ℕ) (i : ℕ) → AreRewrite w s v m from → is_one m i ≡ true → (get_or from i 0 ≤ w) × (w - get_or from i 0 < w)
source_below w s v m from i ok one =
    let some = moves_from w s v m from i ok one in
    let low = ok.low in
    (ok.within i, omega arith)

pub apply_step : (w s v m n left place rest number after : ℕ) (from : List ℕ) (h : Header) → AreRewrite w s v m from → length h ≡ w → n ≡ number_of h
    → Walks m left w (HasBit w s v from h number) → Takes left place rest → ((i : ℕ) → i < 128 → i ≢ place → is_one after i ≡ is_one number i)
    → is_one after place ≡ is_one n (w - get_or from place 0) → Walks m rest w (HasBit w s v from h after)
apply_step w s v m n left place rest number after from h ok width is_number so_far takes others here =
    let at = walk_place m left w place rest (HasBit w s v from h number) so_far takes in
    let wide = ok.high in
    walk_step m left w place rest _ _ ok.high so_far takes
    (λ i l apart done. others i (omega arith) apart ∙ done)
    (here ∙ sym (old_bits w n h (w - get_or from place 0) width is_number (source_below w s v m from place ok at.1).1) ∙ sym (moved_bit w s v m from h place ok at.1))

pub rewritten-places : (w s v : ℕ) (from : List ℕ) (h : Header) → rewritten (rewrite_of w s v from) h ≡ places (λ i. bit_of h (item_at w s v from i)) w
rewritten-places w s v from h = map-places (bit_of h) (item_at w s v from) w

pub apply_end : (w s v m left number : ℕ) (from : List ℕ) (r : Rewrite) (h made : Header) → rewrite_of w s v from ≡ r → Walks m left w (HasBit w s v from h number) → left ≡ 0
    → length made ≡ w → number_of made ≡ number → made ≡ rewritten r h
apply_end w s v m left number from r h made view walk none width is =
    sym (header_from made w number width is)
    ∙ places-same _ _ w (walk_end m left w _ walk none)
    ∙ sym (rewritten-places w s v from h)
    ∙ ap (λ k. rewritten k h) view

-- the words of a rewrite, had back from its items
pub record Known (w s v m : ℕ) (from : List ℕ) (r : Rewrite) : Type 0 where
  pub bits : length r ≡ w
  pub set : number_of (map is_set r) ≡ s
  pub value : number_of (map set_bit r) ≡ v
  pub moved : number_of (moves_of r) ≡ m
  pub sources : sources_of r ≡ from

pub known : (w s v m : ℕ) (from : List ℕ) (r : Rewrite) → AreRewrite w s v m from → rewrite_of w s v from ≡ r → Known w s v m from r
known w s v m from r ok view = record {
  bits = length-rewrite_of w s v from r view;
  set = ap (λ items. number_of (map is_set items)) (sym view) ∙ set_back w s v from ok.set_fits;
  value = ap (λ items. number_of (map set_bit items)) (sym view) ∙ bits_back w s v from ok.set_fits ok.value_within;
  moved = ap (λ items. number_of (moves_of items)) (sym view) ∙ moved_back w s v m from ok;
  sources = ap sources_of (sym view) ∙ sources_back w s v m from ok;
}
