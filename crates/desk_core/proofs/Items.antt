-- Laws of lists that a desk's history needs.
use Rattle.std.specs.Prelude.{◌≡◌, ℕ, zero, suc, ◌+◌, ◌<◌, ◌≤◌, Bool, true, false, ◌&&◌, cond, List, [], ◌∷◌, ◌++◌, length, reverse, None, Some, slice_get, Contains}
use Rattle.std.specs.List.{filter, find, position_from, range_with_len}
use Rattle.std.specs.Option.{option_or}
use Rattle.std.proofs.Common.{refl, sym, ap, ◌∙◌, arith, ⊎_elim}
use Rattle.std.proofs.lemmas.Grind.{reverse_onto}
use Rattle.std.proofs.lemmas.List.FromFn.{length-range_with_len, get_or-range_with_len}
use Rattle.list_laws.proofs.Members.{Contains-nil, Contains-cons_cases}
use Rattle.list_laws.proofs.Tests.{passed_by}
use Rattle.std.proofs.lemmas.List.Folds.{find-append}

pub slice_get-old : {X : Type 0} (xs : List X) (y : X) (k : ℕ) → k < length xs → slice_get (xs ++ y ∷ []) k ≡ slice_get xs k
slice_get-old [] y k h = let no : ⊥ = omega (arith, h) in absurd no
slice_get-old (x ∷ xs) y zero h = refl
slice_get-old (x ∷ xs) y (suc k) h = slice_get-old xs y k (omega (arith, h))

pub slice_get-last : {X : Type 0} (xs : List X) (y : X) → slice_get (xs ++ y ∷ []) (length xs) ≡ Some y
slice_get-last [] y = refl
slice_get-last (x ∷ xs) y = slice_get-last xs y

-- tests that agree on a range keep the same of it
pub filter-range : (p q : ℕ → Bool) (a n : ℕ) → ((k : ℕ) → a ≤ k → k < a + n → p k ≡ q k) → filter p (range_with_len a n) ≡ filter q (range_with_len a n)
filter-range p q a zero h = refl
filter-range p q a (suc n) h =
    let rest : filter p (range_with_len (a + 1) n) ≡ filter q (range_with_len (a + 1) n) =
    filter-range p q (a + 1) n (λ k above below. h k (omega (arith, above)) (omega (arith, below))) in
    ap (λ b. cond b (a ∷ filter p (range_with_len (a + 1) n)) (filter p (range_with_len (a + 1) n))) (h a (omega arith) (omega arith))
    ∙ ap (λ l. cond (q a) (a ∷ l) l) rest

pub find-reverse : {X : Type 0} (p : X → Bool) (x : X) (xs : List X) → find p (reverse (x ∷ xs)) ≡ option_or (find p (reverse xs)) (cond (p x) (Some x) None)
find-reverse p x xs = ap (find p) (reverse_onto xs x []) ∙ find-append p (reverse xs) (x ∷ [])

first_passes : {X : Type 0} (p : X → Bool) (y : X) (ys : List X) (x : X) → (find p ys ≡ Some x → p x ≡ true) → (b : Bool) → p y ≡ b → cond b (Some y) (find p ys) ≡ Some x → p x ≡ true
first_passes p y ys x later true e h = let same : y ≡ x = cc in sym (ap p same) ∙ e
first_passes p y ys x later false e h = later h

pub find-passes : {X : Type 0} (p : X → Bool) (xs : List X) (x : X) → find p xs ≡ Some x → p x ≡ true
find-passes p [] x h = absurd (cc)
find-passes p (y ∷ ys) x h = first_passes p y ys x (find-passes p ys x) (p y) refl h

pub range-last : (a n : ℕ) → range_with_len a (suc n) ≡ range_with_len a n ++ (a + n) ∷ []
range-last a zero = ap (λ (n : ℕ). n ∷ []) (omega arith)
range-last a (suc n) =
    let last : a + 1 + n ≡ a + suc n = omega arith in
    ap (λ (l : List ℕ). a ∷ l) (range-last (a + 1) n ∙ ap (λ (m : ℕ). range_with_len (a + 1) n ++ m ∷ []) last)

both_first : {X : Type 0} (p q : X → Bool) (x : X) (xs : List X) → filter (λ x. p x && q x) xs ≡ filter q (filter p xs)
    → (b : Bool) → p x ≡ b → filter (λ x. p x && q x) (x ∷ xs) ≡ filter q (filter p (x ∷ xs))
both_first p q x xs rest true e =
    ap (λ b. cond (b && q x) (x ∷ filter (λ x. p x && q x) xs) (filter (λ x. p x && q x) xs)) e
    ∙ (ap (λ l. cond (q x) (x ∷ l) l) rest ∙ sym (ap (λ b. filter q (cond b (x ∷ filter p xs) (filter p xs))) e))
both_first p q x xs rest false e =
    ap (λ b. cond (b && q x) (x ∷ filter (λ x. p x && q x) xs) (filter (λ x. p x && q x) xs)) e
    ∙ (rest ∙ sym (ap (λ b. filter q (cond b (x ∷ filter p xs) (filter p xs))) e))

-- a test of two parts keeps what the second keeps of what the first keeps
pub filter-both : {X : Type 0} (p q : X → Bool) (xs : List X) → filter (λ x. p x && q x) xs ≡ filter q (filter p xs)
filter-both p q [] = refl
filter-both p q (x ∷ xs) = both_first p q x xs (filter-both p q xs) (p x) refl

-- tests that agree keep the same
pub filter-same : {X : Type 0} (p q : X → Bool) → ((x : X) → p x ≡ q x) → (xs : List X) → filter p xs ≡ filter q xs
filter-same p q h [] = refl
filter-same p q h (x ∷ xs) =
    ap (λ b. cond b (x ∷ filter p xs) (filter p xs)) (h x) ∙ ap (λ l. cond (q x) (x ∷ l) l) (filter-same p q h xs)

-- where no place is found, no element passes
pub position_from-none : {X : Type 0} (p : X → Bool) (i : ℕ) (xs : List X) → position_from p i xs ≡ None → (x : X) → Contains xs x → p x ≡ false
position_from-none p i [] h x c = absurd (Contains-nil x c)
position_from-none p i (y ∷ ys) h x c =
    let none = passed_by (p y) i (position_from p (i + 1) ys) h in
    ⊎_elim (λ (same : y ≡ x). sym (ap p same) ∙ none.0) (λ later. position_from-none p (i + 1) ys none.1 x later) (Contains-cons_cases y x ys c)

pub range_contains : (n k : ℕ) → 0 < k → k ≤ n → Contains (range_with_len 1 n) k
range_contains n zero l h = let no : ⊥ = omega (arith, l) in absurd no
range_contains n (suc k) l h =
    let e : 1 + k ≡ suc k = omega arith in
    (k, omega (arith, h, length-range_with_len 1 n), get_or-range_with_len 1 n k (suc k) (omega (arith, h)) ∙ e)
