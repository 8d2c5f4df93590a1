-- Lists by number at one of their places: what stands before it and after it.
--     numbers_below, keys_below    what stands before has lower numbers
--     put_number-last, put-last    what is put above all numbers comes last
--     same_maps                    rising lists that give the same at each number are the same
use Rattle.std.proofs.Common.{◌≡◌, ℕ, ◌<◌, ◌≤◌, false, eqb, ltb, List, [], ◌∷◌, ◌++◌, map, length, get_or, Some, None, sym, ap, ◌∙◌, refl, subst, inl, inr, arith}
use Rattle.std.specs.Prelude.{nat_eq}
use Rattle.std.specs.List.{All, AllPairs, list_any}
use Rattle.std.specs.List.Sorted.{IsStrictlyIncreasing}
use Rattle.std.proofs.lemmas.Bool.{cases_Bool, cond-true, cond-false, ne_eqb, eq-eqb, eqb-true, le-ltb}
use Rattle.std.proofs.lemmas.List.{get_or_append_left, get_or_at, length-append}
use Rattle.std.proofs.lemmas.List.Elements.{All-nil, All-cons, All-head, All-tail, All-weaker}
use Rattle.std.proofs.lemmas.List.Folds.{list_any_none}
use Rattle.std.proofs.lemmas.List.Kept.{AllPairs-cons, AllPairs-from_increasing}
use Rattle.model_laws.proofs.Numbered.{AllPairs-nil}
use Rattle.network_model.specs.Network.{value_at}
use Rattle.network_model.specs.Building.{put, put_number}
use Rattle.network_model.specs.WellFormed.{Rises}
use Rattle.model_laws.proofs.Numbered.{AllPairs-heads, AllPairs-tail, absent_later, rises_tail}
use Rattle.net_types.proofs.Maps.{All-value_at}

-- ---- a place of a list
-- before a place there are fewer than in the whole
pub length_before : {X : Type 0} (before : List X) (x : X) (after whole : List X) → before ++ x ∷ after ≡ whole → length before < length whole
length_before before x after whole split = omega (arith, length-append before (x ∷ after), ap length split)

-- what holds of each holds at the place
pub All-place : {X : Type 0} (P : X → Type 0) (before : List X) (x : X) (after whole : List X) → before ++ x ∷ after ≡ whole → All P whole → P x
All-place {X} P before x after whole split h =
    let Holds : List X → Type 0 = λ xs. All P xs in
    let all = subst Holds (sym split) h in
    subst P (get_or_at before x after x (length before) refl)
    (all (length before) x (omega (arith, length-append before (x ∷ after))))

-- what holds of each pair holds of each one before the place with the one there
pub AllPairs-before : {X : Type 0} (R : X → X → Type 0) (before : List X) (x : X) (after whole : List X)
    → before ++ x ∷ after ≡ whole → AllPairs R whole → All (λ y. R y x) before
AllPairs-before {X} R before x after whole split h =
    let Holds : List X → Type 0 = λ xs. AllPairs R xs in
    let pairs = subst Holds (sym split) h in
    λ k d within.
    let this = pairs k (length before) d within (omega (arith, length-append before (x ∷ after))) in
    let first : X → Type 0 = λ y. R y (get_or (before ++ x ∷ after) (length before) d) in
    let second : X → Type 0 = λ y. R (get_or before k d) y in
    subst second (get_or_at before x after d (length before) refl)
    (subst first (get_or_append_left before (x ∷ after) d k within) this)

-- what holds of each pair holds of the one at the place with each one after it
pub AllPairs-after : {X : Type 0} (R : X → X → Type 0) (before : List X) (x : X) (after whole : List X)
    → before ++ x ∷ after ≡ whole → AllPairs R whole → All (R x) after
AllPairs-after {X} R before x after whole split h =
    let Holds : List X → Type 0 = λ xs. AllPairs R xs in
    from before (subst Holds (sym split) h)
  where
    from : (front : List X) → AllPairs R (front ++ x ∷ after) → All (R x) after
    from [] pairs = AllPairs-heads R x after pairs
    from (y ∷ front) pairs = from front (AllPairs-tail R y (front ++ x ∷ after) pairs)

-- ---- numbers
abbrev pub Below : ℕ → ℕ → Type 0
Below m n = m < n

pub numbers_below : (before : List ℕ) (id : ℕ) (after whole : List ℕ) → before ++ id ∷ after ≡ whole → IsStrictlyIncreasing whole
    → All (λ n. n < id) before
numbers_below before id after whole split h = AllPairs-before Below before id after whole split (AllPairs-from_increasing whole h)

-- a number above all is none of them
pub number_absent : (ns : List ℕ) (id : ℕ) → All (λ n. n < id) ns → list_any (nat_eq id) ns ≡ false
number_absent ns id h =
    let Low : ℕ → Type 0 = λ n. n < id in
    let Other : ℕ → Type 0 = λ n. nat_eq id n ≡ false in
    list_any_none (nat_eq id) ns (All-weaker Low Other (λ n low. ne_eqb id n (λ same. omega arith)) ns h)

pub put_number-last : (id : ℕ) (ns : List ℕ) → All (λ n. n < id) ns → put_number id ns ≡ ns ++ id ∷ []
put_number-last id [] h = refl
put_number-last id (n ∷ ns) h =
    let Low : ℕ → Type 0 = λ n. n < id in
    let low : n < id = All-head Low n ns h in
    cond-false (ltb id n) (id ∷ n ∷ ns) (n ∷ put_number id ns) (le-ltb id n (omega arith))
    ∙ ap (λ xs. n ∷ xs) (put_number-last id ns (All-tail Low n ns h))

-- ---- numbered things
-- what holds of each image, at its element
pub All-unmap : {X Y : Type 0} (P : Y → Type 0) (f : X → Y) (xs : List X) → All P (map f xs) → All (λ x. P (f x)) xs
All-unmap {X} P f [] h = let Q : X → Type 0 = λ x. P (f x) in All-nil Q
All-unmap {X} P f (x ∷ xs) h =
    let Q : X → Type 0 = λ x. P (f x) in
    All-cons Q x xs (All-head P (f x) (map f xs) h) (All-unmap P f xs (All-tail P (f x) (map f xs) h))

-- what holds of each pair of images, at their elements
AllPairs-unmap : {X Y : Type 0} (R : Y → Y → Type 0) (f : X → Y) (xs : List X) → AllPairs R (map f xs) → AllPairs (λ x y. R (f x) (f y)) xs
AllPairs-unmap {X} R f [] h = let S : X → X → Type 0 = λ x y. R (f x) (f y) in AllPairs-nil S
AllPairs-unmap {X} R f (x ∷ xs) h =
    let S : X → X → Type 0 = λ x y. R (f x) (f y) in
    AllPairs-cons S x xs (All-unmap (R (f x)) f xs (AllPairs-heads R (f x) (map f xs) h))
    (AllPairs-unmap R f xs (AllPairs-tail R (f x) (map f xs) h))

-- the numbers of two entries
abbrev pub Under : {A : Type 0} → ℕ × A → ℕ × A → Type 0
Under d e = d.0 < e.0

-- each number is below all later ones
pub rising_pairs : {A : Type 0} (es : List (ℕ × A)) → Rises es → AllPairs Under es
rising_pairs es h = AllPairs-unmap Below (λ e. e.0) es (AllPairs-from_increasing (map (λ e. e.0) es) h)

pub keys_below : {A : Type 0} (before : List (ℕ × A)) (x : ℕ × A) (after whole : List (ℕ × A)) → before ++ x ∷ after ≡ whole → Rises whole
    → All (λ e. e.0 < x.0) before
keys_below before x after whole split h = AllPairs-before Under before x after whole split (rising_pairs whole h)

pub keys_above : {A : Type 0} (before : List (ℕ × A)) (x : ℕ × A) (after whole : List (ℕ × A)) → before ++ x ∷ after ≡ whole → Rises whole
    → All (λ e. x.0 < e.0) after
keys_above before x after whole split h = AllPairs-after Under before x after whole split (rising_pairs whole h)

-- nothing is at a number that no entry has
pub value_absent : {A : Type 0} (id : ℕ) (es : List (ℕ × A)) → All (λ e. eqb e.0 id ≡ false) es → value_at es id ≡ None
value_absent id [] h = refl
value_absent {A} id (e ∷ es) h =
    let Other : ℕ × A → Type 0 = λ e. eqb e.0 id ≡ false in
    cond-false (eqb e.0 id) (Some e.1) (value_at es id) (All-head Other e es h) ∙ value_absent id es (All-tail Other e es h)

-- entries with lower numbers have other numbers
pub others_below : {A : Type 0} (id : ℕ) (es : List (ℕ × A)) → All (λ e. e.0 < id) es → All (λ e. eqb e.0 id ≡ false) es
others_below {A} id es h =
    let Low : ℕ × A → Type 0 = λ e. e.0 < id in
    let Other : ℕ × A → Type 0 = λ e. eqb e.0 id ≡ false in
    All-weaker Low Other (λ e low. ne_eqb e.0 id (λ same. omega arith)) es h

-- entries with higher numbers have other numbers
pub others_above : {A : Type 0} (id : ℕ) (es : List (ℕ × A)) → All (λ e. id < e.0) es → All (λ e. eqb e.0 id ≡ false) es
others_above {A} id es h =
    let High : ℕ × A → Type 0 = λ e. id < e.0 in
    let Other : ℕ × A → Type 0 = λ e. eqb e.0 id ≡ false in
    All-weaker High Other (λ e high. ne_eqb e.0 id (λ same. omega arith)) es h

pub put-last : {A : Type 0} (id : ℕ) (v : A) (es : List (ℕ × A)) → All (λ e. e.0 < id) es → put id v es ≡ es ++ (id, v) ∷ []
put-last id v [] h = refl
put-last {A} id v (e ∷ es) h =
    let Low : ℕ × A → Type 0 = λ e. e.0 < id in
    let low : e.0 < id = All-head Low e es h in
    cond-false (ltb id e.0) ((id, v) ∷ e ∷ es) (e ∷ put id v es) (le-ltb id e.0 (omega arith))
    ∙ ap (λ xs. e ∷ xs) (put-last id v es (All-tail Low e es h))

-- ---- rising lists that give the same at each number
-- an entry after the first one has a higher number
key_above : {A : Type 0} (e : ℕ × A) (es : List (ℕ × A)) (k : ℕ) (v : A) → Rises (e ∷ es) → value_at es k ≡ Some v → e.0 < k
key_above e es k v h here = All-value_at (λ d. e.0 < d.0) es k v (AllPairs-heads Under e es (rising_pairs (e ∷ es) h)) here

-- an entry that is found is the first one or a later one
found_at : {A : Type 0} (e : ℕ × A) (es : List (ℕ × A)) (k : ℕ) (v : A) → Rises (e ∷ es) → value_at (e ∷ es) k ≡ Some v → e.0 ≤ k
found_at e es k v h here = elim (cases_Bool (eqb e.0 k)) [
  | inl own ↦ let same = eqb-true e.0 k own in omega arith
  | inr other ↦
      let above = key_above e es k v h (sym (cond-false (eqb e.0 k) (Some e.1) (value_at es k) other) ∙ here) in omega arith
]

-- the first entry is found at its number
pub own_value : {A : Type 0} (e : ℕ × A) (es : List (ℕ × A)) → value_at (e ∷ es) e.0 ≡ Some e.1
own_value e es = cond-true (eqb e.0 e.0) (Some e.1) (value_at es e.0) (eq-eqb e.0 e.0 refl)

-- the first entries have one number, and so are equal
first_keys_same : {A : Type 0} (x : ℕ × A) (xs : List (ℕ × A)) (y : ℕ × A) (ys : List (ℕ × A)) → Rises (x ∷ xs) → Rises (y ∷ ys)
    → ((q : ℕ) → value_at (x ∷ xs) q ≡ value_at (y ∷ ys) q) → x.0 ≡ y.0
first_keys_same x xs y ys rx ry same =
    let low = found_at y ys x.0 x.1 ry (sym (same x.0) ∙ own_value x xs) in
    let high = found_at x xs y.0 y.1 rx (same y.0 ∙ own_value y ys) in
    omega arith

heads_same : {A : Type 0} (x : ℕ × A) (xs : List (ℕ × A)) (y : ℕ × A) (ys : List (ℕ × A)) → x.0 ≡ y.0
    → ((q : ℕ) → value_at (x ∷ xs) q ≡ value_at (y ∷ ys) q) → x ≡ y
heads_same x xs y ys key same =
    let there : value_at (y ∷ ys) x.0 ≡ Some y.1 = ap (λ n. value_at (y ∷ ys) n) key ∙ own_value y ys in
    let values : Some x.1 ≡ Some y.1 = sym (own_value x xs) ∙ same x.0 ∙ there in
    let value : x.1 ≡ y.1 = cc in
    ap (λ n. (n, x.1)) key ∙ ap (λ v. (y.0, v)) value

-- the rests give the same too
tails_same : {A : Type 0} (e : ℕ × A) (xs ys : List (ℕ × A)) → value_at xs e.0 ≡ None → value_at ys e.0 ≡ None
    → ((q : ℕ) → value_at (e ∷ xs) q ≡ value_at (e ∷ ys) q) → (q : ℕ) → value_at xs q ≡ value_at ys q
tails_same e xs ys no_x no_y same q = elim (cases_Bool (eqb e.0 q)) [
  | inl own ↦
      let there = sym (eqb-true e.0 q own) in
      ap (λ n. value_at xs n) there ∙ no_x ∙ sym (ap (λ n. value_at ys n) there ∙ no_y)
  | inr other ↦
      sym (cond-false (eqb e.0 q) (Some e.1) (value_at xs q) other) ∙ same q ∙ cond-false (eqb e.0 q) (Some e.1) (value_at ys q) other
]

pub same_maps : {A : Type 0} (xs ys : List (ℕ × A)) → Rises xs → Rises ys → ((q : ℕ) → value_at xs q ≡ value_at ys q) → xs ≡ ys
same_maps [] [] rx ry same = refl
same_maps [] (y ∷ ys) rx ry same = let none = same y.0 ∙ own_value y ys in absurd (cc)
same_maps (x ∷ xs) [] rx ry same = let none = sym (same x.0) ∙ own_value x xs in absurd (cc)
same_maps {A} (x ∷ xs) (y ∷ ys) rx ry same =
    let head = heads_same x xs y ys (first_keys_same x xs y ys rx ry same) same in
    let Same : ℕ × A → Type 0 = λ e. (q : ℕ) → value_at (x ∷ xs) q ≡ value_at (e ∷ ys) q in
    let no_y : value_at ys x.0 ≡ None = ap (λ (e : ℕ × A). value_at ys e.0) head ∙ absent_later y ys ry in
    let tails = tails_same x xs ys (absent_later x xs rx) no_y (subst Same (sym head) same) in
    ap (λ h. h ∷ xs) head ∙ ap (λ t. y ∷ t) (same_maps xs ys (rises_tail x xs rx) (rises_tail y ys ry) tails)
