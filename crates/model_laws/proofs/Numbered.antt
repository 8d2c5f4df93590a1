-- Lists of numbered things: what `put`, `put_number` and `change_at` keep and give.
use Rattle.std.proofs.Common.{◌≡◌, ℕ, zero, suc, ◌+◌, ◌<◌, ◌≤◌, Bool, true, false, cond, not, ◌||◌, eqb, ltb, List, [], ◌∷◌, map, length, Option, Some, None, sym, refl, ap, ◌∙◌, subst, ⊎_elim, arith, rules}
use Rattle.std.specs.Prelude.{◌≢◌, IsSome, nat_eq}
use Rattle.std.specs.List.{All, AllPairs, Contains, list_any}
use Rattle.std.specs.List.Sorted.{IsStrictlyIncreasing}
use Rattle.std.proofs.lemmas.Bool.{cond_both, cases_Bool, or_parts, ltb-true, ltb-false, eqb-true, eqb-false, cond-true, cond-false, ne_eqb, eq-eqb, le-ltb, lt-ltb, or_right}
use Rattle.std.proofs.lemmas.Map.Views.{list_any-from_Contains, Contains-from_any, exact_unsigned_eq}
use Rattle.std.specs.Cmp.{nat_eq_equiv}
use Rattle.std.proofs.lemmas.Bool.Decides.{nat_tests}
use Rattle.std.proofs.lemmas.List.Elements.{All-nil, All-cons, All-head, All-tail, All-weaker, All-map}
use Rattle.std.proofs.lemmas.List.Kept.{AllPairs-cons, AllPairs-from_increasing}
use Rattle.list_laws.proofs.Tests.{passed_by, or_swap}
use Rattle.network_model.specs.Network.{value_at}
use Rattle.network_model.specs.Building.{put, put_number, change_at}
use Rattle.network_model.specs.WellFormed.{Rises}

-- ---- pairs of a list
pub AllPairs-nil : {X : Type 0} (R : X → X → Type 0) → AllPairs R []
AllPairs-nil R = λ i j d below within. absurd (omega arith)

pub AllPairs-heads : {X : Type 0} (R : X → X → Type 0) (x : X) (xs : List X) → AllPairs R (x ∷ xs) → All (R x) xs
AllPairs-heads R x xs h = λ k d within. h 0 (suc k) d (omega arith) (omega arith)

pub AllPairs-tail : {X : Type 0} (R : X → X → Type 0) (x : X) (xs : List X) → AllPairs R (x ∷ xs) → AllPairs R xs
AllPairs-tail R x xs h = λ i j d below within. h (suc i) (suc j) d (omega arith) (omega arith)

pub AllPairs-map : {X Y : Type 0} (R : Y → Y → Type 0) (f : X → Y) (xs : List X) → AllPairs (λ x y. R (f x) (f y)) xs → AllPairs R (map f xs)
AllPairs-map R f [] h = AllPairs-nil R
AllPairs-map {X} R f (x ∷ xs) h =
    let S : X → X → Type 0 = λ a b. R (f a) (f b) in
    AllPairs-cons R (f x) (map f xs)
    (All-map (R (f x)) f xs (AllPairs-heads S x xs h)) (AllPairs-map R f xs (AllPairs-tail S x xs h))

-- ---- one more number
pub All-put_number : (P : ℕ → Type 0) (k : ℕ) (ns : List ℕ) → P k → All P ns → All P (put_number k ns)
All-put_number P k [] p h = All-cons P k [] p h
All-put_number P k (n ∷ ns) p h =
    cond_both (ltb k n) (k ∷ n ∷ ns) (n ∷ put_number k ns) (λ xs. All P xs)
    (λ _. All-cons P k (n ∷ ns) p h)
    (λ _. All-cons P n (put_number k ns) (All-head P n ns h) (All-put_number P k ns p (All-tail P n ns h)))

abbrev Below : ℕ → ℕ → Type 0
Below m n = m < n

below_put_number : (k : ℕ) (ns : List ℕ) → list_any (eqb k) ns ≡ false → AllPairs Below ns → AllPairs Below (put_number k ns)
below_put_number k [] absent h = AllPairs-cons Below k [] (All-nil (Below k)) h
below_put_number k (n ∷ ns) absent h =
    let apart : (eqb k n ≡ false) × (list_any (eqb k) ns ≡ false) = or_parts (eqb k n) (list_any (eqb k) ns) absent in
    let above = AllPairs-heads Below n ns h in
    cond_both (ltb k n) (k ∷ n ∷ ns) (n ∷ put_number k ns) (λ xs. AllPairs Below xs)
    (λ lt. let less : k < n = ltb-true k n lt in
    AllPairs-cons Below k (n ∷ ns)
    (All-cons (Below k) n ns less (All-weaker (Below n) (Below k) (λ x (more : n < x). omega arith) ns above)) h)
    (λ ge. let more : n < k = grind (arith, nat_tests, ltb-false k n ge, eqb-false k n apart.0) in
    AllPairs-cons Below n (put_number k ns)
    (All-put_number (Below n) k ns more above)
    (below_put_number k ns apart.1 (AllPairs-tail Below n ns h)))

pub rising_put_number : (k : ℕ) (ns : List ℕ) → list_any (eqb k) ns ≡ false → IsStrictlyIncreasing ns → IsStrictlyIncreasing (put_number k ns)
rising_put_number k ns absent h =
    let pairs = below_put_number k ns absent (AllPairs-from_increasing ns h) in
    λ i within. pairs i (i + 1) 0 (omega arith) within

pub length-put_number : (k : ℕ) (ns : List ℕ) → length (put_number k ns) ≡ length ns + 1
length-put_number k [] = omega arith
length-put_number k (n ∷ ns) =
    cond_both (ltb k n) (k ∷ n ∷ ns) (n ∷ put_number k ns) (λ xs. length xs ≡ length (n ∷ ns) + 1)
    (λ _. omega arith) (λ _. omega (arith, length-put_number k ns))

-- ---- one more numbered thing
pub All-put : {A : Type 0} (P : ℕ × A → Type 0) (k : ℕ) (v : A) (es : List (ℕ × A)) → P (k, v) → All P es → All P (put k v es)
All-put P k v [] p h = All-cons P (k, v) [] p h
All-put P k v (e ∷ es) p h =
    cond_both (ltb k e.0) ((k, v) ∷ e ∷ es) (e ∷ put k v es) (λ xs. All P xs)
    (λ _. All-cons P (k, v) (e ∷ es) p h)
    (λ _. All-cons P e (put k v es) (All-head P e es h) (All-put P k v es p (All-tail P e es h)))

pub AllPairs-put : {A : Type 0} (R : ℕ × A → ℕ × A → Type 0) (k : ℕ) (v : A) (es : List (ℕ × A))
    → All (λ e. R (k, v) e × R e (k, v)) es → AllPairs R es → AllPairs R (put k v es)
AllPairs-put R k v [] p h = AllPairs-cons R (k, v) [] (All-nil (R (k, v))) h
AllPairs-put {A} R k v (e ∷ es) p h =
    let Both : ℕ × A → Type 0 = λ e. R (k, v) e × R e (k, v) in
    cond_both (ltb k e.0) ((k, v) ∷ e ∷ es) (e ∷ put k v es) (λ xs. AllPairs R xs)
    (λ _. AllPairs-cons R (k, v) (e ∷ es) (All-weaker Both (R (k, v)) (λ x both. both.0) (e ∷ es) p) h)
    (λ _. AllPairs-cons R e (put k v es)
    (All-put (R e) k v es (All-head Both e es p).1 (AllPairs-heads R e es h))
    (AllPairs-put R k v es (All-tail Both e es p) (AllPairs-tail R e es h)))

pub length-put : {A : Type 0} (k : ℕ) (v : A) (es : List (ℕ × A)) → length (put k v es) ≡ length es + 1
length-put k v [] = omega arith
length-put k v (e ∷ es) =
    cond_both (ltb k e.0) ((k, v) ∷ e ∷ es) (e ∷ put k v es) (λ xs. length xs ≡ length (e ∷ es) + 1)
    (λ _. omega arith) (λ _. omega (arith, length-put k v es))

keys-put : {A : Type 0} (k : ℕ) (v : A) (es : List (ℕ × A)) → map (λ e. e.0) (put k v es) ≡ put_number k (map (λ e. e.0) es)
keys-put k v [] = refl
keys-put k v (e ∷ es) =
    elim (ltb k e.0) as (λ b. map (λ e. e.0) (cond b ((k, v) ∷ e ∷ es) (e ∷ put k v es)) ≡ cond b (k ∷ e.0 ∷ map (λ e. e.0) es) (e.0 ∷ put_number k (map (λ e. e.0) es))) [
      | true ↦ refl
      | false ↦ ap (λ ns. e.0 ∷ ns) (keys-put k v es)
    ]

pub absent_key : {A : Type 0} (k : ℕ) (es : List (ℕ × A)) → value_at es k ≡ None → list_any (eqb k) (map (λ e. e.0) es) ≡ false
absent_key k [] h = refl
absent_key k (e ∷ es) h =
    let p = passed_by (eqb e.0 k) e.1 (value_at es k) h in
    let i = absent_key k es p.1 in
    let n : eqb k e.0 ≡ false = grind (arith, nat_tests, eqb-false e.0 k p.0) in
    rw (n, i) refl

pub rises_put : {A : Type 0} (k : ℕ) (v : A) (es : List (ℕ × A)) → value_at es k ≡ None → Rises es → Rises (put k v es)
rises_put k v es absent h = rw keys-put (rising_put_number k (map (λ e. e.0) es) (absent_key k es absent) h)

cond_swap : {A : Type 0} (a b : Bool) (x y r s : A) → (a ≡ true → b ≡ false) → r ≡ cond b y s → cond a x r ≡ cond b y (cond a x s)
cond_swap true true x y r s apart h = absurd (let e : true ≡ false = apart refl in cc)
cond_swap true false x y r s apart h = refl
cond_swap false true x y r s apart h = h
cond_swap false false x y r s apart h = h

pub value_at-put : {A : Type 0} (k : ℕ) (v : A) (es : List (ℕ × A)) (q : ℕ)
    → value_at es k ≡ None → value_at (put k v es) q ≡ cond (eqb k q) (Some v) (value_at es q)
value_at-put k v [] q absent = refl
value_at-put {A} k v (e ∷ es) q absent =
    let p = passed_by (eqb e.0 k) e.1 (value_at es k) absent in
    cond_both (ltb k e.0) ((k, v) ∷ e ∷ es) (e ∷ put k v es) (λ xs. value_at xs q ≡ cond (eqb k q) (Some v) (value_at (e ∷ es) q))
    (λ _. refl)
    (λ _. cond_swap (eqb e.0 q) (eqb k q) (Some e.1) (Some v) (value_at (put k v es) q) (value_at es q)
    (λ same. grind (arith, nat_tests, eqb-false e.0 k p.0, eqb-true e.0 q same))
    (value_at-put k v es q p.1))

-- what is there stays there
pub value_at-kept : {A : Type 0} (k : ℕ) (v : A) (es : List (ℕ × A)) (q : ℕ) (w : A)
    → value_at es k ≡ None → value_at es q ≡ Some w → value_at (put k v es) q ≡ Some w
value_at-kept k v es q w absent here =
    value_at-put k v es q absent
    ∙ cond-false (eqb k q) (Some v) (value_at es q)
    (ne_eqb k q (λ same. let n : value_at es q ≡ None = subst (λ x. value_at es x ≡ None) same absent in cc))
    ∙ here

pub is_some-kept : {A : Type 0} (k : ℕ) (v : A) (es : List (ℕ × A)) (q : ℕ)
    → value_at es k ≡ None → IsSome (value_at es q) → IsSome (value_at (put k v es) q)
is_some-kept k v es q absent here =
    rw (value_at-put k v es q absent)
    (cond_both (eqb k q) (Some v) (value_at es q) (λ o. IsSome o) (λ _. search rules) (λ _. here))

pub list_any-put : {A : Type 0} (p : ℕ × A → Bool) (k : ℕ) (v : A) (es : List (ℕ × A)) → list_any p (put k v es) ≡ (p (k, v) || list_any p es)
list_any-put p k v [] = refl
list_any-put p k v (e ∷ es) =
    cond_both (ltb k e.0) ((k, v) ∷ e ∷ es) (e ∷ put k v es) (λ xs. list_any p xs ≡ (p (k, v) || list_any p (e ∷ es)))
    (λ _. refl)
    (λ _. rw (list_any-put p k v es) (or_swap (p e) (p (k, v)) (list_any p es)))

pub list_any-put_number : (p : ℕ → Bool) (k : ℕ) (ns : List ℕ) → list_any p (put_number k ns) ≡ (p k || list_any p ns)
list_any-put_number p k [] = refl
list_any-put_number p k (n ∷ ns) =
    cond_both (ltb k n) (k ∷ n ∷ ns) (n ∷ put_number k ns) (λ xs. list_any p xs ≡ (p k || list_any p (n ∷ ns)))
    (λ _. refl)
    (λ _. rw (list_any-put_number p k ns) (or_swap (p n) (p k) (list_any p ns)))

pub Contains-put_number : (k : ℕ) (ns : List ℕ) (n : ℕ) → Contains ns n → Contains (put_number k ns) n
Contains-put_number k ns n h =
    let there : list_any (eqb n) ns ≡ true = list_any-from_Contains nat_eq_equiv n ns h in
    Contains-from_any exact_unsigned_eq n (put_number k ns)
    (list_any-put_number (eqb n) k ns ∙ or_right (eqb n k) (list_any (eqb n) ns) there)

-- ---- a numbered thing that changes
abbrev pub change : {A : Type 0} → ℕ → (A → A) → ℕ × A → ℕ × A
change k f e = cond (eqb e.0 k) (e.0, f e.1) e

keys-change_at : {A : Type 0} (k : ℕ) (f : A → A) (es : List (ℕ × A)) → map (λ e. e.0) (change_at k f es) ≡ map (λ e. e.0) es
keys-change_at k f [] = refl
keys-change_at k f (e ∷ es) =
    cond_both (eqb e.0 k) (e.0, f e.1) e (λ x. map (λ e. e.0) (x ∷ change_at k f es) ≡ e.0 ∷ map (λ e. e.0) es)
    (λ _. ap (λ ns. e.0 ∷ ns) (keys-change_at k f es)) (λ _. ap (λ ns. e.0 ∷ ns) (keys-change_at k f es))

pub rises_change_at : {A : Type 0} (k : ℕ) (f : A → A) (es : List (ℕ × A)) → Rises es → Rises (change_at k f es)
rises_change_at k f es h = rw keys-change_at h

pub length-change_at : {A : Type 0} (k : ℕ) (f : A → A) (es : List (ℕ × A)) → length (change_at k f es) ≡ length es
length-change_at k f [] = refl
length-change_at k f (e ∷ es) = omega (arith, length-change_at k f es)

-- a rising list has nothing more at the number of its first entry
above_absent : {A : Type 0} (k : ℕ) (es : List (ℕ × A)) → All (λ n. k < n) (map (λ e. e.0) es) → value_at es k ≡ None
above_absent k [] h = refl
above_absent k (e ∷ es) h =
    let Above : ℕ → Type 0 = λ n. k < n in
    let more : k < e.0 = All-head Above e.0 (map (λ e. e.0) es) h in
    cond-false (eqb e.0 k) (Some e.1) (value_at es k) (ne_eqb e.0 k (λ same. omega arith))
    ∙ above_absent k es (All-tail Above e.0 (map (λ e. e.0) es) h)

pub absent_later : {A : Type 0} (e : ℕ × A) (es : List (ℕ × A)) → Rises (e ∷ es) → value_at es e.0 ≡ None
absent_later e es h =
    let keys = map (λ (x : ℕ × _). x.0) es in
    above_absent e.0 es (AllPairs-heads Below e.0 keys (AllPairs-from_increasing (e.0 ∷ keys) h))

pub rises_tail : {A : Type 0} (e : ℕ × A) (es : List (ℕ × A)) → Rises (e ∷ es) → Rises es
rises_tail e es h =
    let keys = map (λ (x : ℕ × _). x.0) es in
    let pairs = AllPairs-tail Below e.0 keys (AllPairs-from_increasing (e.0 ∷ keys) h) in
    λ i within. pairs i (i + 1) 0 (omega arith) within

later_apart : {A : Type 0} (k : ℕ) (v : A) (e : ℕ × A) (es : List (ℕ × A)) → Rises (e ∷ es) → value_at es k ≡ Some v → eqb e.0 k ≡ false
later_apart k v e es h here =
    ne_eqb e.0 k (λ same. let n : value_at es k ≡ None = subst (λ x. value_at es x ≡ None) same (absent_later e es h) in cc)

-- what held of each holds of each where the change of the one at the number keeps it
pub All-change_at : {A : Type 0} (P : ℕ × A → Type 0) (k : ℕ) (f : A → A) (es : List (ℕ × A))
    → ((v : A) → value_at es k ≡ Some v → P (k, v) → P (k, f v)) → Rises es → All P es → All P (change_at k f es)
All-change_at P k f [] kept rises h = h
All-change_at {A} P k f (e ∷ es) kept rises h =
    let head : P (change k f e) =
    cond_both (eqb e.0 k) (e.0, f e.1) e P
    (λ here. let same : k ≡ e.0 = sym (eqb-true e.0 k here) in
    let Q : ℕ → Type 0 = λ n. P (n, f e.1) in
    let S : ℕ → Type 0 = λ n. P (n, e.1) in
    subst Q same (kept e.1 (cond-true (eqb e.0 k) (Some e.1) (value_at es k) here) (subst S (sym same) (All-head P e es h))))
    (λ _. All-head P e es h) in
    All-cons P (change k f e) (change_at k f es) head
    (All-change_at P k f es
    (λ v here. kept v (cond-false (eqb e.0 k) (Some e.1) (value_at es k) (later_apart k v e es rises here) ∙ here))
    (rises_tail e es rises) (All-tail P e es h))

pub AllPairs-change_at : {A : Type 0} (R : ℕ × A → ℕ × A → Type 0) (k : ℕ) (f : A → A) (es : List (ℕ × A))
    → ((d e : ℕ × A) → R d e → R (change k f d) (change k f e)) → AllPairs R es → AllPairs R (change_at k f es)
AllPairs-change_at R k f es kept h =
    AllPairs-map R (change k f) es (λ i j d below within. kept _ _ (h i j d below within))

pub list_any-change_at : {A : Type 0} (p : ℕ × A → Bool) (k : ℕ) (f : A → A) (es : List (ℕ × A))
    → ((e : ℕ × A) → p (e.0, f e.1) ≡ p e) → list_any p (change_at k f es) ≡ list_any p es
list_any-change_at p k f [] same = refl
list_any-change_at p k f (e ∷ es) same =
    cond_both (eqb e.0 k) (e.0, f e.1) e (λ x. (p x || list_any p (change_at k f es)) ≡ (p e || list_any p es))
    (λ _. rw (same e, list_any-change_at p k f es same) refl)
    (λ _. rw (list_any-change_at p k f es same) refl)

pub change_at-absent : {A : Type 0} (k : ℕ) (f : A → A) (es : List (ℕ × A)) → value_at es k ≡ None → change_at k f es ≡ es
change_at-absent k f [] absent = refl
change_at-absent k f (e ∷ es) absent =
    let p = passed_by (eqb e.0 k) e.1 (value_at es k) absent in
    rw (cond-false (eqb e.0 k) (e.0, f e.1) e p.0, change_at-absent k f es p.1) refl

pub change_at-same : {A : Type 0} (k : ℕ) (es : List (ℕ × A)) → change_at k (λ v. v) es ≡ es
change_at-same k [] = refl
change_at-same k (e ∷ es) =
    cond_both (eqb e.0 k) (e.0, e.1) e (λ x. x ∷ change_at k (λ v. v) es ≡ e ∷ es)
    (λ _. ap (λ xs. e ∷ xs) (change_at-same k es)) (λ _. ap (λ xs. e ∷ xs) (change_at-same k es))
