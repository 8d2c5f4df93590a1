-- What other patterns leave of a pattern, letter by letter: what one asks for, and the two halves that a bit makes.
use Rattle.std.proofs.Common.{◌≡◌, ◌≢◌, ℕ, zero, suc, ◌+◌, ◌<◌, ◌≤◌, Bool, true, false, not, ◌&&◌, ◌||◌, cond, [], ◌∷◌, length, get_or, set, Option, Some, None, refl, ap, ◌∙◌, arith}
use Rattle.std.specs.Option.{option_map}
use Rattle.std.specs.declared.cmp.Ordering.TheVariants.{Less}
use Rattle.std.proofs.lemmas.Bool.{and_parts, and_from, false≢true, true≢false}
use Rattle.std.proofs.lemmas.List.Sums.{sum_by-cons}
use Rattle.network_model.specs.Bits.{Header, Letter, Bit, Any, Pattern, letter_takes, matches}
use Rattle.ternary_bits.specs.Pieces.{letters_meet, meets}
use Rattle.ternary_bits.specs.Asking.{asks, first_asked, asked_before}
use Rattle.header_sets.specs.Search.{cmp_from, is_any, free_places}

-- ---- what another asks for

none_of : {A B : Type 0} (f : A → B) (o : Option A) → option_map f o ≡ None → o ≡ None
none_of f None e = refl
none_of f (Some a) e = absurd (cc)

-- one that asks for nothing more matches each header of the pattern
takes_more : (l o : Letter) (b : Bool) → letters_meet l o ≡ true → asks l o ≡ false → letter_takes l b ≡ true → letter_takes o b ≡ true
takes_more Any Any b meet none takes = refl
takes_more Any (Bit c) b meet none takes = absurd (true≢false none)
takes_more (Bit c) Any b meet none takes = refl
takes_more (Bit true) (Bit true) b meet none takes = takes
takes_more (Bit true) (Bit false) b meet none takes = absurd (false≢true meet)
takes_more (Bit false) (Bit true) b meet none takes = absurd (false≢true meet)
takes_more (Bit false) (Bit false) b meet none takes = takes

none_here : (t : Bool) (o : Option ℕ) → cond t (Some 0) (option_map (λ place. suc place) o) ≡ None → (t ≡ false) × (o ≡ None)
none_here true o e = absurd (cc)
none_here false o e = (refl, none_of (λ place. suc place) o e)

pub covers : (p q : Pattern) → meets p q ≡ true → first_asked p q ≡ None → (h : Header) → matches p h ≡ true → matches q h ≡ true
covers [] [] meet none [] e = refl
covers [] [] meet none (b ∷ h) e = e
covers [] (o ∷ os) meet none h e = absurd (false≢true meet)
covers (l ∷ ls) [] meet none h e = absurd (false≢true meet)
covers (l ∷ ls) (o ∷ os) meet none [] e = e
covers (l ∷ ls) (o ∷ os) meet none (b ∷ h) e =
    let meeting = and_parts (letters_meet l o) (meets ls os) meet in
    let unasked = none_here (asks l o) (first_asked ls os) none in
    let taken = and_parts (letter_takes l b) (matches ls h) e in
    and_from (letter_takes o b) (matches os h) (takes_more l o b meeting.0 unasked.0 taken.0) (covers ls os meeting.1 unasked.1 h taken.1)

-- the leftmost asked place is free, and left of it nothing is asked for
some_here : (t : Bool) (o : Option ℕ) (k : ℕ) → cond t (Some 0) (option_map (λ place. suc place) o) ≡ Some (suc k) → (t ≡ false) × (o ≡ Some k)
some_here true o k e = let zero_is : 0 ≡ suc k = cc in absurd (omega arith)
some_here false None k e = absurd (cc)
some_here false (Some j) k e = let same : suc j ≡ suc k = cc in let is : j ≡ k = omega arith in (refl, ap Some is)

zero_here : (t : Bool) (o : Option ℕ) → cond t (Some 0) (option_map (λ place. suc place) o) ≡ Some zero → t ≡ true
zero_here true o e = refl
zero_here false None e = absurd (cc)
zero_here false (Some j) e = let same : suc j ≡ zero = cc in absurd (omega arith)

asks_free : (l o : Letter) → asks l o ≡ true → l ≡ Any
asks_free Any o e = refl
asks_free (Bit b) o e = absurd (false≢true e)

pub asked_inside : (p q : Pattern) (k : ℕ) → first_asked p q ≡ Some k → k < length p
asked_inside [] q k e = absurd (cc)
asked_inside (l ∷ ls) [] k e = absurd (cc)
asked_inside (l ∷ ls) (o ∷ os) zero e = omega arith
asked_inside (l ∷ ls) (o ∷ os) (suc k) e = let below = asked_inside ls os k (some_here (asks l o) (first_asked ls os) k e).1 in omega arith

pub asked_free : (p q : Pattern) (k : ℕ) → first_asked p q ≡ Some k → get_or p k (Bit false) ≡ Any
asked_free [] q k e = absurd (cc)
asked_free (l ∷ ls) [] k e = absurd (cc)
asked_free (l ∷ ls) (o ∷ os) zero e = asks_free l o (zero_here (asks l o) (first_asked ls os) e)
asked_free (l ∷ ls) (o ∷ os) (suc k) e = asked_free ls os k (some_here (asks l o) (first_asked ls os) k e).1

pub none_before : (p q : Pattern) (k j : ℕ) → first_asked p q ≡ Some k → j ≤ k → asked_before j p q ≡ false
none_before p q k zero e l = refl
none_before [] q k (suc j) e l = refl
none_before (x ∷ ls) [] k (suc j) e l = refl
none_before (x ∷ ls) (o ∷ os) zero (suc j) e l = absurd (omega arith)
none_before (x ∷ ls) (o ∷ os) (suc k) (suc j) e l =
    let here = some_here (asks x o) (first_asked ls os) k e in
    rw here.0 (none_before ls os k j here.1 (omega arith))

pub none_further : (p q : Pattern) (k j : ℕ) → asked_before k p q ≡ false → j ≤ k → asked_before j p q ≡ false
none_further p q k zero e l = refl
none_further p q zero (suc j) e l = absurd (omega arith)
none_further [] q (suc k) (suc j) e l = refl
none_further (x ∷ ls) [] (suc k) (suc j) e l = refl
none_further (x ∷ ls) (o ∷ os) (suc k) (suc j) e l =
    let parts = neither (asks x o) (asked_before k ls os) e in
    rw parts.0 (none_further ls os k j parts.1 (omega arith))
  where
    neither : (a b : Bool) → (a || b) ≡ false → (a ≡ false) × (b ≡ false)
    neither true b n = absurd (true≢false n)
    neither false b n = (refl, n)

-- ---- free places

pub free_cons : (l : Letter) (p : Pattern) → free_places (l ∷ p) ≡ cond (is_any l) 1 0 + free_places p
free_cons l p = sum_by-cons (λ x. cond (is_any x) 1 0) l p

-- ---- the halves that a bit makes of a pattern

half : (b : Bool) (x m : Bool) → m ≡ ((letter_takes (Bit b) x && m) || (letter_takes (Bit (not b)) x && m))
half true true true = refl
half true true false = refl
half true false true = refl
half true false false = refl
half false true true = refl
half false true false = refl
half false false true = refl
half false false false = refl

after : (t m n : Bool) → (t && (m || n)) ≡ ((t && m) || (t && n))
after true m n = refl
after false m n = refl

pub halves : (p : Pattern) (k : ℕ) (b : Bool) → get_or p k (Bit false) ≡ Any → (h : Header)
    → matches p h ≡ (matches (set p k (Bit b)) h || matches (set p k (Bit (not b))) h)
halves [] k b free h = absurd (cc)
halves (l ∷ ls) zero b free [] = refl
halves (l ∷ ls) zero b free (x ∷ h) = ap (λ (y : Letter). letter_takes y x && matches ls h) free ∙ half b x (matches ls h)
halves (l ∷ ls) (suc k) b free [] = refl
halves (l ∷ ls) (suc k) b free (x ∷ h) =
    ap (λ m. letter_takes l x && m) (halves ls k b free h)
    ∙ after (letter_takes l x) (matches (set ls k (Bit b)) h) (matches (set ls k (Bit (not b))) h)

-- ---- a header of one half, with that same bit at each free place left of where the halves part

pub lowered : Bool → ℕ → Pattern → Header → Header
lowered b zero p h = h
lowered b (suc k) [] h = h
lowered b (suc k) (l ∷ ls) [] = []
lowered b (suc k) (Any ∷ ls) (x ∷ h) = b ∷ lowered b k ls h
lowered b (suc k) (Bit c ∷ ls) (x ∷ h) = x ∷ lowered b k ls h

pub lowered_in : (b : Bool) (k : ℕ) (p : Pattern) (a : Letter) (h : Header) → matches (set p k a) h ≡ true → matches (set p k a) (lowered b k p h) ≡ true
unfolding lowered
lowered_in b zero p a h e = e
lowered_in b (suc k) [] a h e = e
lowered_in b (suc k) (l ∷ ls) a [] e = absurd (false≢true e)
lowered_in b (suc k) (Any ∷ ls) a (x ∷ h) e = lowered_in b k ls a h e
lowered_in b (suc k) (Bit c ∷ ls) a (x ∷ h) e =
    let parts = and_parts (letter_takes (Bit c) x) (matches (set ls k a) h) e in
    and_from (letter_takes (Bit c) x) (matches (set ls k a) (lowered b k ls h)) parts.0 (lowered_in b k ls a h parts.1)

pub lowered_other : (b : Bool) (k : ℕ) (p q : Pattern) (h : Header) → asked_before k p q ≡ false → matches q (lowered b k p h) ≡ matches q h
unfolding lowered
lowered_other b zero p q h none = refl
lowered_other b (suc k) [] q h none = refl
lowered_other b (suc k) (l ∷ ls) [] [] none = refl
lowered_other b (suc k) (Any ∷ ls) [] (x ∷ h) none = refl
lowered_other b (suc k) (Bit c ∷ ls) [] (x ∷ h) none = refl
lowered_other b (suc k) (l ∷ ls) (o ∷ os) [] none = refl
lowered_other b (suc k) (Any ∷ ls) (Any ∷ os) (x ∷ h) none = lowered_other b k ls os h none
lowered_other b (suc k) (Any ∷ ls) (Bit d ∷ os) (x ∷ h) none = absurd (true≢false none)
lowered_other b (suc k) (Bit c ∷ ls) (o ∷ os) (x ∷ h) none = ap (λ m. letter_takes o x && m) (lowered_other b k ls os h none)

-- it comes before each header of the other half
first_of_halves : (b : Bool) (m h : Header) (x y : Bool) → letter_takes (Bit b) x ≡ true → letter_takes (Bit (not b)) y ≡ true → cmp_from b (y ∷ h) (x ∷ m) ≢ Less
first_of_halves true m h true true in_near in_far = absurd (false≢true in_far)
first_of_halves true m h true false in_near in_far = λ less. absurd (cc)
first_of_halves true m h false y in_near in_far = absurd (false≢true in_near)
first_of_halves false m h true y in_near in_far = absurd (false≢true in_near)
first_of_halves false m h false true in_near in_far = λ less. absurd (cc)
first_of_halves false m h false false in_near in_far = absurd (false≢true in_far)

below_free : (b : Bool) (m h : Header) (y : Bool) → cmp_from b h m ≢ Less → cmp_from b (y ∷ h) (b ∷ m) ≢ Less
below_free true m h true behind = behind
below_free true m h false behind = λ less. absurd (cc)
below_free false m h true behind = λ less. absurd (cc)
below_free false m h false behind = behind

below_asked : (b c : Bool) (m h : Header) (x y : Bool) → letter_takes (Bit c) x ≡ true → letter_takes (Bit c) y ≡ true → cmp_from b h m ≢ Less → cmp_from b (y ∷ h) (x ∷ m) ≢ Less
below_asked true true m h true true t u behind = behind
below_asked false true m h true true t u behind = behind
below_asked true false m h false false t u behind = behind
below_asked false false m h false false t u behind = behind
below_asked b true m h false y t u behind = absurd (false≢true t)
below_asked b true m h true false t u behind = absurd (false≢true u)
below_asked b false m h true y t u behind = absurd (false≢true t)
below_asked b false m h false true t u behind = absurd (false≢true u)

pub before_other_half : (b : Bool) (k : ℕ) (p : Pattern) (m h : Header) → get_or p k (Bit false) ≡ Any → matches (set p k (Bit b)) m ≡ true → matches (set p k (Bit (not b))) h ≡ true
    → cmp_from b h (lowered b k p m) ≢ Less
unfolding lowered
before_other_half b k [] m h free near far = absurd (cc)
before_other_half b k (l ∷ ls) [] h free near far = absurd (none_matches k l ls (Bit b) near)
  where
    none_matches : (n : ℕ) (x : Letter) (xs : Pattern) (a : Letter) → matches (set (x ∷ xs) n a) [] ≡ true → ⊥
    none_matches zero x xs a e = false≢true e
    none_matches (suc n) x xs a e = false≢true e
before_other_half b zero (l ∷ ls) (x ∷ m) [] free near far = absurd (false≢true far)
before_other_half b (suc k) (l ∷ ls) (x ∷ m) [] free near far = absurd (false≢true far)
before_other_half b zero (l ∷ ls) (x ∷ m) (y ∷ h) free near far =
    first_of_halves b m h x y (and_parts (letter_takes (Bit b) x) (matches ls m) near).0 (and_parts (letter_takes (Bit (not b)) y) (matches ls h) far).0
before_other_half b (suc k) (Any ∷ ls) (x ∷ m) (y ∷ h) free near far =
    below_free b (lowered b k ls m) h y (before_other_half b k ls m h free near far)
before_other_half b (suc k) (Bit c ∷ ls) (x ∷ m) (y ∷ h) free near far =
    let one = and_parts (letter_takes (Bit c) x) (matches (set ls k (Bit b)) m) near in
    let other = and_parts (letter_takes (Bit c) y) (matches (set ls k (Bit (not b))) h) far in
    below_asked b c (lowered b k ls m) h x y one.0 other.0 (before_other_half b k ls m h free one.1 other.1)
