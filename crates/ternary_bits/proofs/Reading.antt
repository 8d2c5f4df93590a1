-- Words of letters, read into words of bits from the left, and written again.
use Rattle.std.proofs.Common.{◌≡◌, ℕ, zero, suc, ◌+◌, ◌-◌, ◌*◌, ◌<◌, ◌≤◌, ◌^◌, ◌%◌, Bool, true, false, if◌then◌else◌, eqb, ltb, cond, List, [], ◌∷◌, ◌++◌, map, length, get_or, take, Option, Some, None, is_none, refl, sym, ap, ◌∙◌, arith, bit_and, bit_or, below_more, Result, Ok, Err, IsErrOf, ◌↔◌}
use mathlib.Core.Path.{fun_ext}
use Rattle.std.specs.List.{position, position_or_len}
use Rattle.std.proofs.lemmas.Nat.{or_shifted, shl_whole, and_block, and_le_r}
use Rattle.std.proofs.Math.Nat.{pow-suc}
use Rattle.std.proofs.lemmas.Nat.Bits.{bit_at_cat_low, bit_at_cat_high}
use Rattle.std.proofs.lemmas.Bool.{false≢true, lt-ltb}
use Rattle.std.proofs.lemmas.List.{take_more, take_all, get_or-map, length-map}
use Rattle.std.proofs.lemmas.List.Sums.{position_or_len_is}
use Rattle.std.proofs.lemmas.List.Quantifiers.{position-Some}
use Rattle.network_model.specs.Bits.{Letter, Bit, Any, Pattern}
use Rattle.ternary_bits.specs.Letters.{onto, bit_letter, header_letter, header_letters, pattern_letter, pattern_letters, rewrite_letter, rewrite_letters, item_letter, letters_text}
use Rattle.network_model.specs.Rewrites.{Set, Old, Rewrite}
use Rattle.ternary_bits.specs.Pieces.{least_member}
use Rattle.ternary_bits.specs.Places.{place_letter, place_letters, place_text}
use Rattle.ternary_bits.specs.Words.{is_one, places, letter_at, pattern_of, rewrite_of, AreRewrite}
use Rattle.ternary_bits.specs.Inverses.{get_or-places, places-same, map-places}
use Rattle.ternary_bits.proofs.Places.{places-push}
use Rattle.ternary_bits.proofs.Matching.{letter, length-pattern_of}
use Rattle.ternary_bits.proofs.Rewriting.{item, still_items}

abbrev push : {A : Type 0} → Option (List A) → A → Option (List A)
push None last = None
push (Some xs) last = Some (xs ++ last ∷ [])

onto-push : {A : Type 0} (first : Option A) (xs : Option (List A)) (last : A) → onto first (push xs last) ≡ push (onto first xs) last
onto-push None xs last = refl
onto-push (Some x) None last = refl
onto-push (Some x) (Some xs) last = refl

letters-push : (blank : Option ℕ) (bs : List ℕ) (b : ℕ) (l : Letter) → place_letter blank b ≡ Some l → place_letters blank (bs ++ b ∷ []) ≡ push (place_letters blank bs) l
letters-push blank [] b l is = ap (λ x. onto x (Some [])) is
letters-push blank (x ∷ bs) b l is =
    ap (onto (place_letter blank x)) (letters-push blank bs b l is) ∙ onto-push (place_letter blank x) (place_letters blank bs) l

-- ---- one more place in a word

pub shifted : (n bit i : ℕ) → n < 2 ^ i → i < 128 → bit < 2 → bit_or (n * 2 % 2 ^ 128) bit ≡ n * 2 ^ 1 + bit
shifted n bit i fits within small = ap (λ x. bit_or x bit) (shl_whole n i 1 128 fits (omega arith)) ∙ or_shifted n 1 bit small

is_one-low : (n bit : ℕ) → is_one (n * 2 ^ 1 + bit) 0 ≡ is_one bit 0
is_one-low n bit = ap (λ b. eqb b 1) (bit_at_cat_low n 1 bit 0 (omega arith))

is_one-high : (n bit i : ℕ) → bit < 2 → is_one (n * 2 ^ 1 + bit) (suc i) ≡ is_one n i
is_one-high n bit i small =
    let down : suc i - 1 ≡ i = omega arith in
    ap (λ b. eqb b 1) (bit_at_cat_high n 1 bit (suc i) small (omega arith)) ∙ ap (is_one n) down

pattern-push : (i care value has bit : ℕ) → has < 2 → bit < 2
    → pattern_of (suc i) (care * 2 ^ 1 + has) (value * 2 ^ 1 + bit) ≡ pattern_of i care value ++ letter_at has bit 0 ∷ []
pattern-push i care value has bit small small' =
    let more : ℕ → Letter = letter_at (care * 2 ^ 1 + has) (value * 2 ^ 1 + bit) in
    let high : places (λ k. more (suc k)) i ≡ pattern_of i care value =
    places-same _ _ i (λ k l.
    ap (λ x. letter x (is_one (value * 2 ^ 1 + bit) (suc k))) (is_one-high care has k small)
    ∙ ap (letter (is_one care k)) (is_one-high value bit k small'))
    in
    let low : more 0 ≡ letter_at has bit 0 =
    ap (λ x. letter x (is_one (value * 2 ^ 1 + bit) 0)) (is_one-low care has) ∙ ap (letter (is_one has 0)) (is_one-low value bit)
    in
    places-push more i ∙ ap (λ xs. xs ++ more 0 ∷ []) high ∙ ap (λ l. pattern_of i care value ++ l ∷ []) low

small_within : (bit has : ℕ) → bit ≤ has → has < 2 → bit_and bit has ≡ bit
small_within zero zero below small = refl
small_within zero (suc zero) below small = refl
small_within (suc zero) (suc zero) below small = refl
small_within (suc n) zero below small = absurd (omega arith)
small_within (suc (suc n)) (suc zero) below small = absurd (omega arith)
small_within bit (suc (suc n)) below small = absurd (omega arith)

-- what a loop has read of a text: its first letters are those of the words, and each is right
pub record HasRead (blank : Option ℕ) (text : List ℕ) (at care value : ℕ) : Type 0 where
  pub read : place_letters blank (take at text) ≡ Some (pattern_of at care value)
  pub right : (k : ℕ) → k < at → is_none (place_letter blank (get_or text k 0)) ≡ false
  pub fits : care < 2 ^ at
  pub within : bit_and value care ≡ value

pub has_read_none : (blank : Option ℕ) (text : List ℕ) → HasRead blank text 0 0 0
unfolding places
has_read_none blank text = record { read = refl; right = λ k l. absurd (omega arith); fits = omega arith; within = refl }

right_more : (blank : Option ℕ) (text : List ℕ) (at : ℕ) (l : Letter) → place_letter blank (get_or text at 0) ≡ Some l
    → ((k : ℕ) → k < at → is_none (place_letter blank (get_or text k 0)) ≡ false) → (k : ℕ) → k < at + 1 → is_none (place_letter blank (get_or text k 0)) ≡ false
right_more blank text at l is right = below_more (λ k. is_none (place_letter blank (get_or text k 0)) ≡ false) at right (ap is_none is)

pub has_read_more : (blank : Option ℕ) (text : List ℕ) (at care value has bit : ℕ) → at < length text → at < 128 → bit ≤ has → has < 2
    → place_letter blank (get_or text at 0) ≡ Some (letter_at has bit 0) → HasRead blank text at care value
    → HasRead blank text (at + 1) (bit_or (care * 2 % 2 ^ 128) has) (bit_or (value * 2 % 2 ^ 128) bit)
has_read_more blank text at care value has bit inside narrow below small is so_far =
    let value_fits : value < 2 ^ at = omega (arith, so_far.fits, so_far.within, and_le_r value care) in
    let care_is : bit_or (care * 2 % 2 ^ 128) has ≡ care * 2 ^ 1 + has = shifted care has at so_far.fits narrow small in
    let value_is : bit_or (value * 2 % 2 ^ 128) bit ≡ value * 2 ^ 1 + bit = shifted value bit at value_fits narrow (omega arith) in
    let next : at + 1 ≡ suc at = omega arith in
    record {
      read =
          ap (place_letters blank) (take_more text at 0 inside)
          ∙ letters-push blank (take at text) (get_or text at 0) (letter_at has bit 0) is
          ∙ ap (λ xs. push xs (letter_at has bit 0)) so_far.read
          ∙ ap Some (sym (pattern-push at care value has bit small (omega arith)))
          ∙ ap (λ w. Some (pattern_of w (care * 2 ^ 1 + has) (value * 2 ^ 1 + bit))) (sym next)
          ∙ ap (λ x. Some (pattern_of (at + 1) x (value * 2 ^ 1 + bit))) (sym care_is)
          ∙ ap (λ x. Some (pattern_of (at + 1) (bit_or (care * 2 % 2 ^ 128) has) x)) (sym value_is);
      right = right_more blank text at (letter_at has bit 0) is so_far.right;
      fits = omega (arith, care_is, so_far.fits, pow-suc 2 at, ap (λ k. 2 ^ k) next);
      within =
          ap (λ x. bit_and x (bit_or (care * 2 % 2 ^ 128) has)) value_is
          ∙ ap (bit_and (value * 2 ^ 1 + bit)) care_is
          ∙ and_block 1 value care bit has (omega arith) small
          ∙ ap (λ x. x * 2 ^ 1 + bit_and bit has) so_far.within
          ∙ ap (λ x. value * 2 ^ 1 + x) (small_within bit has below small)
          ∙ sym value_is;
    }

abbrev wrong : Option ℕ → ℕ → Bool
wrong blank b = is_none (place_letter blank b)

-- the first letter that is not right
pub first_wrong : (blank : Option ℕ) (text : List ℕ) (at care value : ℕ) → at < length text → place_letter blank (get_or text at 0) ≡ None
    → HasRead blank text at care value → position (λ b. is_none (place_letter blank b)) text ≡ Some at
first_wrong blank text at care value inside none so_far =
    let here : position_or_len (wrong blank) text ≡ at = position_or_len_is (wrong blank) text at 0 (omega arith) so_far.right (λ _. ap is_none none) in
    ap (λ i. cond (ltb i (length text)) (Some i) None) here ∙ ap (λ b. cond b (Some at) None) (lt-ltb at (length text) inside)

pub none_wrong : (blank : Option ℕ) (text : List ℕ) (at care value place : ℕ) → length text ≤ at → HasRead blank text at care value
    → position (λ b. is_none (place_letter blank b)) text ≡ Some place → ⊥
none_wrong blank text at care value place past so_far found =
    let first = position-Some (wrong blank) text place 0 found in
    false≢true (sym (so_far.right place (omega (arith, first.0))) ∙ first.1)

pub letters_read : (blank : Option ℕ) (text : List ℕ) (at care value : ℕ) → at ≡ length text → HasRead blank text at care value
    → place_letters blank text ≡ Some (pattern_of (length text) care value)
letters_read blank text at care value past so_far =
    ap (place_letters blank) (sym (take_all at text (omega arith))) ∙ so_far.read ∙ ap (λ w. Some (pattern_of w care value)) past

-- ---- written again

pub place_written : (blank : ℕ) (w care value place : ℕ) (p : Pattern) → pattern_of w care value ≡ p → place < length p
    → place_text blank (get_or p (length p - 1 - place) Any) ≡ place_text blank (letter_at care value place)
place_written blank w care value place p view inside =
    let width : length p ≡ w = length-pattern_of w care value p view in
    let at : w - 1 - (w - 1 - place) ≡ place = omega arith in
    ap (λ n. place_text blank (get_or p (n - 1 - place) Any)) width
    ∙ ap (λ q. place_text blank (get_or q (w - 1 - place) Any)) (sym view)
    ∙ ap (place_text blank) (get_or-places (letter_at care value) w (w - 1 - place) Any (omega arith) ∙ ap (letter_at care value) at)

pub text_blank : (blank care value place : ℕ) → is_one care place ≡ false → place_text blank (letter_at care value place) ≡ blank
text_blank blank care value place none = ap (λ c. place_text blank (letter c (is_one value place))) none

pub text_bit : (blank care value place : ℕ) (bit : Bool) → is_one care place ≡ true → is_one value place ≡ bit → place_text blank (letter_at care value place) ≡ bit_letter bit
text_bit blank care value place bit asks is =
    ap (λ c. place_text blank (letter c (is_one value place))) asks ∙ ap bit_letter is

-- one more letter of a text
pub text_more : (blank : ℕ) (p : Pattern) (before : ℕ) (made : List ℕ) (b : ℕ) → before < length p → made ≡ take before (map (place_text blank) p)
    → b ≡ place_text blank (get_or p (length p - 1 - (length p - 1 - before)) Any) → made ++ b ∷ [] ≡ take (before + 1) (map (place_text blank) p)
text_more blank p before made b inside so_far is =
    let at : length p - 1 - (length p - 1 - before) ≡ before = omega arith in
    let letter_is : b ≡ get_or (map (place_text blank) p) before 0 =
    is ∙ ap (λ k. place_text blank (get_or p k Any)) at ∙ sym (get_or-map (place_text blank) p before Any 0 inside)
    in
    ap (λ x. made ++ x ∷ []) letter_is
    ∙ ap (λ xs. xs ++ get_or (map (place_text blank) p) before 0 ∷ []) so_far
    ∙ sym (take_more (map (place_text blank) p) before 0 (omega (arith, length-map p (place_text blank))))

pub text_all : (blank : ℕ) (p : Pattern) (before : ℕ) (made : List ℕ) → length p ≤ before → made ≡ take before (map (place_text blank) p) → made ≡ map (place_text blank) p
text_all blank p before made past so_far =
    so_far ∙ take_all before (map (place_text blank) p) (omega (arith, length-map p (place_text blank)))

-- ---- headers, patterns and rewrites as words with a blank

pub position-same : (p q : ℕ → Bool) → ((b : ℕ) → p b ≡ q b) → (text : List ℕ) → position p text ≡ position q text
position-same p q same text =
    let tests : p ≡ q = fun_ext same in
    ap (λ test. position test text) tests

onto_none : {A : Type 0} (first : Option A) → onto first None ≡ None
onto_none None = refl
onto_none (Some x) = refl

pub wrong_at : (blank : Option ℕ) (text : List ℕ) (at : ℕ) → at < length text → place_letter blank (get_or text at 0) ≡ None → place_letters blank text ≡ None
wrong_at blank [] at inside none = absurd (omega arith)
wrong_at blank (b ∷ text) zero inside none = ap (λ first. onto first (place_letters blank text)) none
wrong_at blank (b ∷ text) (suc at) inside none = ap (onto (place_letter blank b)) (wrong_at blank text at (omega arith) none) ∙ onto_none (place_letter blank b)

pub word_none : {A : Type 0} (wide : Bool) (read : Option A) → (wide ≡ true → read ≡ None) → (if wide then read else None) ≡ None
word_none true read none = none refl
word_none false read none = refl

pub word_read : {A : Type 0} (wide : Bool) (read : Option A) (value : A) → wide ≡ true → read ≡ Some value → (if wide then read else None) ≡ Some value
word_read true read value yes_wide is = is
word_read false read value yes_wide is = absurd (false≢true yes_wide)

abbrev pub each : {A B : Type 0} → (A → B) → Option A → Option B
each f None = None
each f (Some x) = Some (f x)

pub pattern-letters : (text : List ℕ) → place_letters (Some 120) text ≡ pattern_letters text
pattern-letters [] = refl
pattern-letters (b ∷ text) = ap (onto (pattern_letter b)) (pattern-letters text)

header_step : (zero' one' : Bool) (rest : Option Pattern)
    → onto (if zero' then Some false else (if one' then Some true else None)) (each least_member rest)
    ≡ each least_member (onto (if zero' then Some (Bit false) else (if one' then Some (Bit true) else None)) rest)
header_step true one' None = refl
header_step true one' (Some p) = refl
header_step false true None = refl
header_step false true (Some p) = refl
header_step false false rest = refl

pub header-letters : (text : List ℕ) → header_letters text ≡ each least_member (place_letters None text)
header-letters [] = refl
header-letters (b ∷ text) = ap (onto (header_letter b)) (header-letters text) ∙ header_step (eqb b 48) (eqb b 49) (place_letters None text)

wrong_step : (zero' one' : Bool)
    → is_none (if zero' then Some (Bit false) else (if one' then Some (Bit true) else None)) ≡ is_none (if zero' then Some false else (if one' then Some true else None))
wrong_step true one' = refl
wrong_step false true = refl
wrong_step false false = refl

pub header-wrong : (b : ℕ) → is_none (place_letter None b) ≡ is_none (header_letter b)
header-wrong b = wrong_step (eqb b 48) (eqb b 49)

-- the rewrite that sets the bits of a pattern and keeps the other places, the first of them numbered `place`
abbrev pub items_from : ℕ → Pattern → Rewrite
items_from place [] = []
items_from place (Bit bit ∷ letters) = Set bit ∷ items_from (place + 1) letters
items_from place (Any ∷ letters) = Old place ∷ items_from (place + 1) letters

rewrite_step : (zero' one' blank : Bool) (place : ℕ) (rest : Option Pattern)
    → onto (if zero' then Some (Set false) else (if one' then Some (Set true) else (if blank then Some (Old place) else None))) (each (items_from (place + 1)) rest)
    ≡ each (items_from place) (onto (if zero' then Some (Bit false) else (if one' then Some (Bit true) else (if blank then Some Any else None))) rest)
rewrite_step true one' blank place None = refl
rewrite_step true one' blank place (Some p) = refl
rewrite_step false true blank place None = refl
rewrite_step false true blank place (Some p) = refl
rewrite_step false false true place None = refl
rewrite_step false false true place (Some p) = refl
rewrite_step false false false place rest = refl

pub rewrite-letters : (place : ℕ) (text : List ℕ) → rewrite_letters place text ≡ each (items_from place) (place_letters (Some 45) text)
rewrite-letters place [] = refl
rewrite-letters place (b ∷ text) =
    ap (onto (rewrite_letter place b)) (rewrite-letters (place + 1) text)
    ∙ rewrite_step (eqb b 48) (eqb b 49) (eqb b 45) place (place_letters (Some 45) text)

rewrite_wrong_step : (zero' one' blank : Bool)
    → is_none (if zero' then Some (Bit false) else (if one' then Some (Bit true) else (if blank then Some Any else None)))
    ≡ is_none (if zero' then Some (Set false) else (if one' then Some (Set true) else (if blank then Some (Old 1) else None)))
rewrite_wrong_step true one' blank = refl
rewrite_wrong_step false true blank = refl
rewrite_wrong_step false false true = refl
rewrite_wrong_step false false false = refl

pub rewrite-wrong : (b : ℕ) → is_none (place_letter (Some 45) b) ≡ is_none (rewrite_letter 1 b)
rewrite-wrong b = rewrite_wrong_step (eqb b 48) (eqb b 49) (eqb b 45)

item_step : (s v : Bool) (place : ℕ) (letters : Pattern) → items_from place (letter s v ∷ letters) ≡ (if s then Set v else Old place) ∷ items_from (place + 1) letters
item_step true v place letters = refl
item_step false v place letters = refl

items-places : (s v place w : ℕ) → items_from place (places (letter_at s v) w) ≡ places (λ i. if is_one s i then Set (is_one v i) else Old (place + w - 1 - i)) w
unfolding places
items-places s v place zero = refl
items-places s v place (suc w) =
    let at : place ≡ place + suc w - 1 - w = omega arith in
    item_step (is_one s w) (is_one v w) place (places (letter_at s v) w)
    ∙ ap (λ k. (if is_one s w then Set (is_one v w) else Old k) ∷ items_from (place + 1) (places (letter_at s v) w)) at
    ∙ ap (λ rest. (if is_one s w then Set (is_one v w) else Old (place + suc w - 1 - w)) ∷ rest)
    (items-places s v (place + 1) w
    ∙ places-same _ _ w (λ i l.
    let same : place + 1 + w - 1 - i ≡ place + suc w - 1 - i = omega arith in
    ap (λ k. if is_one s i then Set (is_one v i) else Old k) same))

pub rewrite_from_letters : (w s v m : ℕ) (from : List ℕ) (p : Pattern) → AreRewrite w s v m from → m ≡ 0 → pattern_of w s v ≡ p → items_from 1 p ≡ rewrite_of w s v from
rewrite_from_letters w s v m from p ok none view =
    ap (items_from 1) (sym view)
    ∙ items-places s v 1 w
    ∙ places-same _ _ w (λ i l.
    let same : 1 + w - 1 - i ≡ w - i = omega arith in
    ap (λ k. if is_one s i then Set (is_one v i) else Old k) same)
    ∙ sym (still_items w s v m from ok none)

-- ---- the texts of rewrites

item_text : (s v : Bool) (place : ℕ) → place_text 45 (letter s v) ≡ item_letter (if s then Set v else Old place)
item_text true v place = refl
item_text false v place = refl

pub rewrite-text : (w s v m : ℕ) (from : List ℕ) (r : Rewrite) → AreRewrite w s v m from → m ≡ 0 → rewrite_of w s v from ≡ r → map (place_text 45) (pattern_of w s v) ≡ letters_text r
rewrite-text w s v m from r ok none view =
    map-places (place_text 45) (letter_at s v) w
    ∙ places-same _ _ w (λ i l. item_text (is_one s i) (is_one v i) (w - i))
    ∙ sym (map-places item_letter (λ i. item (is_one s i) (is_one v i) (w - i)) w)
    ∙ ap letters_text (sym (still_items w s v m from ok none) ∙ view)

-- ---- a fault handed on

pub same_fault : {S T E P Q : Type 0} (r : Result S E) (s : Result T E) (e f : E) → r ≡ Err e → s ≡ Err e → IsErrOf r f ↔ P → (P → Q) → (Q → P) → IsErrOf s f ↔ Q
same_fault r s e f r_is s_is says there back = (
  λ is. there (says.0 (let same : e ≡ f = cc in r_is ∙ ap Err same)),
  λ q. let is = says.1 (back q) in let same : e ≡ f = cc in s_is ∙ ap Err same,
)

pub no_fault : {S T E P Q : Type 0} (r : Result S E) (s : Result T E) (f : E) (x : S) (y : T) → r ≡ Ok x → s ≡ Ok y → IsErrOf r f ↔ P → (Q → P) → IsErrOf s f ↔ Q
no_fault r s f x y r_is s_is says back = (λ is. cc, λ q. let is = says.1 (back q) in cc)
