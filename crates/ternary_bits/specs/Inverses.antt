-- The words that a header, a pattern and a rewrite stand for can be had back from their lists.
use Rattle.std.specs.Prelude.{◌≡◌, ◌≢◌, ℕ, zero, suc, ◌+◌, ◌-◌, ◌*◌, ◌<◌, ◌^◌, ◌%◌, ◌==◌, nat_lt, Bool, true, false, not, ◌&&◌, cond, if◌then◌else◌, nat_eq, List, ◌∷◌, length, map, bit_and, slice_index_or, refl}
use Rattle.std.specs.Int.{bit_at}
use Rattle.std.specs.List.{range_with_len}
use Rattle.std.proofs.Common.{sym, ap, ◌∙◌, arith, inl, inr}
use Rattle.std.proofs.Math.Nat.{mod-eq_of_lt}
use Rattle.std.proofs.lemmas.Nat.{mod-pow-add, and_le_r}
use Rattle.std.proofs.lemmas.Nat.Bits.{bit_at_and, bit_at-lt, bit_at_above}
use Rattle.std.proofs.lemmas.List.{length-map, get_or-map, get_or_default, same_lists}
use Rattle.std.proofs.lemmas.List.FromFn.{length-range_with_len, get_or-range_with_len}
use Rattle.std.proofs.lemmas.Bool.{and_right, lt-ltb, le-ltb, cond-true, cond-false, eqb-true, not-false, cases_lt}
use Rattle.std.proofs.lemmas.Bool.Decides.{nat_tests}
use Rattle.network_model.specs.Bits.{number_of, Bit, Any}
use Rattle.network_model.specs.Rewrites.{Set, Old}
use Rattle.ternary_bits.specs.Pieces.{least_bit, least_member}
use Rattle.ternary_bits.specs.Words.{is_one, places, table, header_of, letter_at, pattern_of, old_place, item_at, rewrite_of, AreRewrite, has_bit, is_set, set_bit, source_of, source_at, sources_of, moves_of}

pub length-places : {A : Type 0} (f : ℕ → A) (w : ℕ) → length (places f w) ≡ w
unfolding places
length-places f zero = refl
length-places f (suc w) = ap suc (length-places f w)

pub places-same : {A : Type 0} (f g : ℕ → A) (w : ℕ) → ((i : ℕ) → i < w → f i ≡ g i) → places f w ≡ places g w
unfolding places
places-same f g zero same = refl
places-same f g (suc w) same =
    let here : f w ≡ g w = same w (omega arith) in
    let below : places f w ≡ places g w = places-same f g w (λ i l. same i (omega arith)) in
    cc

pub map-places : {A B : Type 0} (h : A → B) (f : ℕ → A) (w : ℕ) → map h (places f w) ≡ places (λ i. h (f i)) w
unfolding places
map-places h f zero = refl
map-places h f (suc w) = ap (λ rest. h (f w) ∷ rest) (map-places h f w)

-- the low bits of a word, one more of them
pub low_more : (n w : ℕ) → n % 2 ^ suc w ≡ bit_at n w * 2 ^ w + n % 2 ^ w
low_more n w =
    let next : 1 + w ≡ suc w = omega arith in
    ap (λ k. n % 2 ^ k) (sym next) ∙ mod-pow-add n 1 w

number_more : (bit : ℕ) (w low : ℕ) → bit < 2 → cond (nat_eq bit 1) (2 ^ w) 0 + low ≡ bit * 2 ^ w + low
number_more zero w low small = omega arith
number_more (suc zero) w low small = omega arith
number_more (suc (suc n)) w low small = absurd (omega arith)

-- the number of a header is the low bits of its word
pub number_of-header_of : (w value : ℕ) → number_of (header_of w value) ≡ value % 2 ^ w
unfolding places
number_of-header_of zero value = omega arith
number_of-header_of (suc w) value =
    rw (length-places (is_one value) w, number_of-header_of w value)
    (number_more (bit_at value w) w (value % 2 ^ w) (bit_at-lt value w) ∙ sym (low_more value w))

pub is_one-and : (a b i : ℕ) → is_one (bit_and a b) i ≡ (is_one a i && is_one b i)
is_one-and a b i =
    let bits = bit_at_and a b i in
    let small = bit_at-lt a i in
    let small' = bit_at-lt b i in
    grind (arith, nat_tests)

-- a word within another has no bit where the other has none
pub is_one-within : (value care i : ℕ) → bit_and value care ≡ value → is_one care i ≡ false → is_one value i ≡ false
is_one-within value care i within none =
    let both : is_one value i ≡ (is_one value i && is_one care i) = ap (λ word. is_one word i) (sym within) ∙ is_one-and value care i in
    both ∙ and_right (is_one value i) (is_one care i) none

pub header_back : (w value : ℕ) → value < 2 ^ w → (A : Type 0) (made : ℕ → ℕ → A)
    → made (length (header_of w value)) (number_of (header_of w value)) ≡ made w value
header_back w value fits A made =
    let width : length (header_of w value) ≡ w = length-places (is_one value) w in
    let number : number_of (header_of w value) ≡ value = number_of-header_of w value ∙ mod-eq_of_lt fits in
    cc

cared : (c v : Bool) → has_bit (if c then Bit v else Any) ≡ c
cared true v = refl
cared false v = refl

asked : (c v : Bool) → (c ≡ false → v ≡ false) → least_bit (if c then Bit v else Any) ≡ v
asked true v within = refl
asked false v within = sym (within refl)

pub least_member-pattern_of : (w care value : ℕ) → bit_and value care ≡ value → least_member (pattern_of w care value) ≡ header_of w value
least_member-pattern_of w care value within =
    map-places least_bit (letter_at care value) w
    ∙ places-same _ _ w (λ i l. asked (is_one care i) (is_one value i) (is_one-within value care i within))

pub care_back : (w care value : ℕ) → care < 2 ^ w → number_of (map has_bit (pattern_of w care value)) ≡ care
care_back w care value fits =
    ap number_of
    (map-places has_bit (letter_at care value) w ∙ places-same _ _ w (λ i l. cared (is_one care i) (is_one value i)))
    ∙ number_of-header_of w care
    ∙ mod-eq_of_lt fits

pub asked_back : (w care value : ℕ) → care < 2 ^ w → bit_and value care ≡ value → number_of (least_member (pattern_of w care value)) ≡ value
asked_back w care value fits within =
    let below : value < 2 ^ w = omega (arith, and_le_r value care, within) in
    ap number_of (least_member-pattern_of w care value within) ∙ number_of-header_of w value ∙ mod-eq_of_lt below

pub pattern_back : (w care value : ℕ) → care < 2 ^ w → bit_and value care ≡ value → (A : Type 0) (made : ℕ → ℕ → ℕ → A)
    → made (length (pattern_of w care value)) (number_of (map has_bit (pattern_of w care value))) (number_of (least_member (pattern_of w care value))) ≡ made w care value
pattern_back w care value fits within A made =
    let width = length-places (letter_at care value) w in
    let care_is = care_back w care value fits in
    let value_is = asked_back w care value fits within in
    cc

setting : (c v : Bool) (place : ℕ) → is_set (if c then Set v else Old place) ≡ c
setting true v place = refl
setting false v place = refl

set_to : (c v : Bool) (place : ℕ) → (c ≡ false → v ≡ false) → set_bit (if c then Set v else Old place) ≡ v
set_to true v place within = refl
set_to false v place within = sym (within refl)

pub set_back : (w s value : ℕ) (from : List ℕ) → s < 2 ^ w → number_of (map is_set (rewrite_of w s value from)) ≡ s
set_back w s value from fits =
    ap number_of
    (map-places is_set (item_at w s value from) w
    ∙ places-same _ _ w (λ i l. setting (is_one s i) (is_one value i) (old_place (w - i) (slice_index_or from i 0))))
    ∙ number_of-header_of w s
    ∙ mod-eq_of_lt fits

pub bits_back : (w s value : ℕ) (from : List ℕ) → s < 2 ^ w → bit_and value s ≡ value → number_of (map set_bit (rewrite_of w s value from)) ≡ value
bits_back w s value from fits within =
    let below : value < 2 ^ w = omega (arith, and_le_r value s, within) in
    ap number_of
    (map-places set_bit (item_at w s value from) w
    ∙ places-same _ _ w (λ i l. set_to (is_one s i) (is_one value i) (old_place (w - i) (slice_index_or from i 0)) (is_one-within value s i within)))
    ∙ number_of-header_of w value
    ∙ mod-eq_of_lt below

pub get_or-places : {A : Type 0} (f : ℕ → A) (w k : ℕ) (d : A) → k < w → slice_index_or (places f w) k d ≡ f (w - 1 - k)
unfolding places
get_or-places f zero k d l = absurd (omega arith)
get_or-places f (suc w) zero d l = ap f (omega arith)
get_or-places f (suc w) (suc k) d l =
    let same : w - 1 - k ≡ suc w - 1 - suc k = omega arith in
    get_or-places f w k d (omega arith) ∙ ap f same

pub length-table : {A : Type 0} (f : ℕ → A) (size : ℕ) → length (table f size) ≡ size
unfolding table
length-table f size = length-map (range_with_len 0 size) f ∙ length-range_with_len 0 size

pub get_or-table : {A : Type 0} (f : ℕ → A) (size k : ℕ) (d : A) → k < size → slice_index_or (table f size) k d ≡ f k
unfolding table
get_or-table f size k d l =
    let inside : k < length (range_with_len 0 size) = omega (arith, length-range_with_len 0 size) in
    let at : 0 + k ≡ k = omega arith in
    get_or-map f (range_with_len 0 size) k 0 d inside ∙ ap f (get_or-range_with_len 0 size k 0 l ∙ at)

source_back : (c v : Bool) (own source : ℕ) → (c ≡ true → source ≡ 0) → source ≢ own → source_of own (if c then Set v else Old (old_place own source)) ≡ source
source_back true v own source none other = sym (none refl)
source_back false v own zero none other = grind (arith, nat_tests)
source_back false v own (suc source) none other = grind (arith, nat_tests)

-- the items of a rewrite name the places that its words do
pub source_at-back : (w s value moved : ℕ) (from : List ℕ) → AreRewrite w s value moved from → (i : ℕ) → source_at (rewrite_of w s value from) i ≡ slice_index_or from i 0
source_at-back w s value moved from ok i =
    let width : length (rewrite_of w s value from) ≡ w = length-places (item_at w s value from) w in
    ap (λ n. if nat_lt i n then source_of (n - i) (slice_index_or (rewrite_of w s value from) (n - 1 - i) (Set false)) else 0) width
    ∙ elim (cases_lt i w) as (λ _. (if nat_lt i w then source_of (w - i) (slice_index_or (rewrite_of w s value from) (w - 1 - i) (Set false)) else 0) ≡ slice_index_or from i 0) [
      | inl l ↦
          let at : w - 1 - (w - 1 - i) ≡ i = omega arith in
          cond-true _ _ _ (lt-ltb i w l)
          ∙ ap (source_of (w - i)) (get_or-places (item_at w s value from) w (w - 1 - i) (Set false) (omega arith) ∙ ap (item_at w s value from) at)
          ∙ source_back (is_one s i) (is_one value i) (w - i) (slice_index_or from i 0) (ok.apart i) (ok.elsewhere i l)
      | inr past ↦
          let none : is_one moved i ≡ false = ap (λ b. nat_eq b 1) (bit_at_above moved w i ok.moved_fits past) in
          cond-false _ _ _ (le-ltb i w past) ∙ sym (eqb-true _ 0 (not-false _ (sym (ok.marks i) ∙ none)))
    ]

pub sources_back : (w s value moved : ℕ) (from : List ℕ) → AreRewrite w s value moved from → sources_of (rewrite_of w s value from) ≡ from
sources_back w s value moved from ok =
    let at : ℕ → ℕ = source_at (rewrite_of w s value from) in
    same_lists _ _ (length-table at 128 ∙ sym ok.size) (λ k e l.
    let inside : k < 128 = omega (arith, length-table at 128) in
    get_or-table at 128 k e inside
    ∙ source_at-back w s value moved from ok k
    ∙ get_or_default from k 0 e (omega (arith, ok.size)))

pub moved_back : (w s value moved : ℕ) (from : List ℕ) → AreRewrite w s value moved from → number_of (moves_of (rewrite_of w s value from)) ≡ moved
moved_back w s value moved from ok =
    let width : length (rewrite_of w s value from) ≡ w = length-places (item_at w s value from) w in
    ap (λ n. number_of (places (λ i. not (source_at (rewrite_of w s value from) i == 0)) n)) width
    ∙ ap number_of (places-same _ _ w (λ i l. ap (λ n. not (n == 0)) (source_at-back w s value moved from ok i) ∙ sym (ok.marks i)))
    ∙ number_of-header_of w moved
    ∙ mod-eq_of_lt ok.moved_fits

pub rewrite_back : (w s value moved : ℕ) (from : List ℕ) → AreRewrite w s value moved from → (A : Type 0) (made : ℕ → ℕ → ℕ → ℕ → List ℕ → A)
    → made (length (rewrite_of w s value from)) (number_of (map is_set (rewrite_of w s value from))) (number_of (map set_bit (rewrite_of w s value from)))
    (number_of (moves_of (rewrite_of w s value from))) (sources_of (rewrite_of w s value from))
    ≡ made w s value moved from
rewrite_back w s value moved from ok A made =
    let width = length-places (item_at w s value from) w in
    let set_is = set_back w s value from ok.set_fits in
    let value_is = bits_back w s value from ok.set_fits ok.value_within in
    let moved_is = moved_back w s value moved from ok in
    let sources_are = sources_back w s value moved from ok in
    cc
