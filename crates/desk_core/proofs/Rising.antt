-- Lists whose numbers rise from a number on.
use Rattle.std.specs.Prelude.{◌≡◌, ◌≢◌, ℕ, zero, suc, ◌+◌, ◌<◌, ◌≤◌, ◌==◌, Bool, true, false, not, cond, List, [], ◌∷◌, length, remove, slice_index}
use Rattle.std.specs.List.{filter, range_with_len}
use Rattle.std.proofs.Common.{refl, sym, ap, ◌∙◌, arith}
use Rattle.std.proofs.lemmas.Bool.{eqb-true, eq-eqb, false_from_ne_true}

abbrev pub Above : ℕ → List ℕ → Type 0
Above a [] = Unit {0}
Above a (x ∷ xs) = (a ≤ x) × Above (suc x) xs

above_less : (a b : ℕ) (xs : List ℕ) → b ≤ a → Above a xs → Above b xs
above_less a b [] l h = tt
above_less a b (x ∷ xs) l h = (omega (arith, l, h.0), h.1)

above_first : (b : Bool) (a : ℕ) (xs : List ℕ) → Above (suc a) xs → Above a (cond b (a ∷ xs) xs)
above_first true a xs h = (omega arith, h)
above_first false a xs h = above_less (suc a) a xs (omega arith) h

pub above_filter : (p : ℕ → Bool) (a n : ℕ) → Above a (filter p (range_with_len a n))
above_filter p a zero = tt
above_filter p a (suc n) =
    let next : suc a ≤ a + 1 = omega arith in
    above_first (p a) a (filter p (range_with_len (a + 1) n)) (above_less (a + 1) (suc a) (filter p (range_with_len (a + 1) n)) next (above_filter p (a + 1) n))

pub above_get : (a : ℕ) (xs : List ℕ) → Above a xs → (k : ℕ) → k < length xs → a ≤ slice_index xs k
above_get a [] h k l = let no : ⊥ = omega (arith, l) in absurd no
above_get a (x ∷ xs) h zero l = h.0
above_get a (x ∷ xs) h (suc k) l = let rest = above_get (suc x) xs h.1 k (omega (arith, l)) in omega (arith, rest, h.0)

pub above_distinct : (a : ℕ) (xs : List ℕ) → Above a xs → (i j : ℕ) → i < length xs → j < length xs → slice_index xs i ≡ slice_index xs j → i ≡ j
above_distinct a [] h i j li lj e = let no : ⊥ = omega (arith, li) in absurd no
above_distinct a (x ∷ xs) h zero zero li lj e = refl
above_distinct a (x ∷ xs) h zero (suc j) li lj e = let l = above_get (suc x) xs h.1 j (omega (arith, lj)) in omega (arith, l, e)
above_distinct a (x ∷ xs) h (suc i) zero li lj e = let l = above_get (suc x) xs h.1 i (omega (arith, li)) in omega (arith, l, e)
above_distinct a (x ∷ xs) h (suc i) (suc j) li lj e = ap suc (above_distinct (suc x) xs h.1 i j (omega (arith, li)) (omega (arith, lj)) e)

pub differ : (a b : ℕ) → a ≢ b → (a == b) ≡ false
differ a b h = false_from_ne_true (a == b) (λ e. h (eqb-true a b e))

-- all numbers above one are others
above_others : (x : ℕ) (xs : List ℕ) (a : ℕ) → x < a → Above a xs → filter (λ y. not (x == y)) xs ≡ xs
above_others x [] a l h = refl
above_others x (y ∷ ys) a l h =
    let other : x ≢ y = omega (arith, l, h.0) in
    ap (λ b. cond (not b) (y ∷ filter (λ y. not (x == y)) ys) (filter (λ y. not (x == y)) ys)) (differ x y other)
    ∙ ap (λ l. y ∷ l) (above_others x ys (suc y) (omega (arith, l, h.0)) h.1)

-- a number is taken away by its place
pub remove-above : (a : ℕ) (xs : List ℕ) → Above a xs → (i : ℕ) → i < length xs → remove xs i ≡ filter (λ x. not (slice_index xs i == x)) xs
remove-above a [] h i l = let no : ⊥ = omega (arith, l) in absurd no
remove-above a (x ∷ xs) h zero l =
    sym (ap (λ b. cond (not b) (x ∷ filter (λ y. not (x == y)) xs) (filter (λ y. not (x == y)) xs)) (eq-eqb x x refl)
    ∙ above_others x xs (suc x) (omega arith) h.1)
remove-above a (x ∷ xs) h (suc k) l =
    let n = slice_index xs k in
    let least = above_get (suc x) xs h.1 k (omega (arith, l)) in
    let other : n ≢ x = omega (arith, least) in
    ap (λ l. x ∷ l) (remove-above (suc x) xs h.1 k (omega (arith, l)))
    ∙ sym (ap (λ b. cond (not b) (x ∷ filter (λ y. not (n == y)) xs) (filter (λ y. not (n == y)) xs)) (differ n x other))
