-- Facts of each two elements of a list.
use Rattle.std.proofs.Common.{◌≡◌, ◌⊎◌, ℕ, ◌+◌, ◌-◌, ◌<◌, ◌≤◌, List, [], ◌∷◌, ◌++◌, length, map, get_or, refl, sym, ◌∙◌, subst, inl, inr, ⊎_elim, arith}
use Rattle.std.specs.List.{AllPairs, Contains, insert}
use Rattle.std.proofs.lemmas.Bool.{cases_lt}
use Rattle.std.proofs.lemmas.List.{length-append, length-map, get_or-map, get_or_append_left, get_or-append_right}
use Rattle.std.proofs.lemmas.List.Edits.{length-insert, get_or-insert_below, get_or-insert_at, get_or-insert_above}
use Rattle.std.proofs.lemmas.List.Elements.{Contains-get_or}

-- a fact of each two elements of two lists, and of one of either, is one of each two of both
pub AllPairs-append : {A : Type 0} (R : A → A → Type 0) (xs ys : List A) → AllPairs R xs → AllPairs R ys
    → ((x y : A) → Contains xs x → Contains ys y → R x y) → AllPairs R (xs ++ ys)
AllPairs-append {A} R xs ys all_xs all_ys across i j d less inside =
    let n : length (xs ++ ys) ≡ length xs + length ys = length-append xs ys in
    ⊎_elim
    (λ (second : j < length xs).
    let first : i < length xs = omega arith in
    at i j d (get_or_append_left xs ys d i first) (get_or_append_left xs ys d j second) (all_xs i j d less second))
    (λ (past : length xs ≤ j).
    let second : j - length xs < length ys = omega arith in
    let at_j = get_or-append_right xs ys (length xs) j d refl past in
    ⊎_elim
    (λ (first : i < length xs).
    at i j d (get_or_append_left xs ys d i first) at_j
    (across (get_or xs i d) (get_or ys (j - length xs) d) (Contains-get_or xs i d first) (Contains-get_or ys (j - length xs) d second)))
    (λ (also : length xs ≤ i).
    let before : i - length xs < j - length xs = omega arith in
    at i j d (get_or-append_right xs ys (length xs) i d refl also) at_j (all_ys (i - length xs) (j - length xs) d before second))
    (cases_lt i (length xs)))
    (cases_lt j (length xs))
  where
    at : (i j : ℕ) (d : A) {x y : A} → get_or (xs ++ ys) i d ≡ x → get_or (xs ++ ys) j d ≡ y → R x y → R (get_or (xs ++ ys) i d) (get_or (xs ++ ys) j d)
    at i j d {x} {y} first second r = subst (λ a. R a (get_or (xs ++ ys) j d)) (sym first) (subst (λ b. R x b) (sym second) r)

some_of : {X : Type 0} (xs : List X) → 0 < length xs → X
some_of [] inside = absurd (omega arith)
some_of (x ∷ xs) inside = x

pub AllPairs-map : {X Y : Type 0} (f : X → Y) (R : Y → Y → Type 0) (xs : List X) → AllPairs (λ a b. R (f a) (f b)) xs → AllPairs R (map f xs)
AllPairs-map f R xs pairs i j d before inside =
    let below : j < length xs = omega (arith, length-map xs f) in
    let x = some_of xs (omega arith) in
    rw (get_or-map f xs i x d (omega arith), get_or-map f xs j x d below) (pairs i j x before below)

pub AllPairs-from_map : {X Y : Type 0} (f : X → Y) (R : Y → Y → Type 0) (xs : List X) → AllPairs R (map f xs) → AllPairs (λ a b. R (f a) (f b)) xs
AllPairs-from_map f R xs pairs i j d before inside =
    let pair = pairs i j (f d) before (omega (arith, length-map xs f)) in
    rw (get_or-map f xs i d (f d) (omega arith), get_or-map f xs j d (f d) inside) at pair

pub AllPairs-insert : {X : Type 0} (R : X → X → Type 0) (xs : List X) (i : ℕ) (x : X) → i ≤ length xs → AllPairs R xs → ((k : ℕ) (d : X) → k < i → R (get_or xs k d) x) → ((k : ℕ) (d : X) → i ≤ k → k < length xs → R x (get_or xs k d)) → AllPairs R (insert xs i x)
AllPairs-insert {X} R xs i x inside pairs before after a b d less b_in =
    let long = length-insert xs i x inside in
    let low : (k : ℕ) → k < i → get_or (insert xs i x) k d ≡ get_or xs k d = λ k below. get_or-insert_below xs i x d k below inside in
    let here : get_or (insert xs i x) i d ≡ x = get_or-insert_at xs i x d inside in
    let high : (k : ℕ) → i < k → get_or (insert xs i x) k d ≡ get_or xs (k - 1) d = λ k above.
    subst (λ q. get_or (insert xs i x) q d ≡ get_or xs (k - 1) d) {x = k - 1 + 1} (omega arith) (get_or-insert_above xs i x d (k - 1) (omega arith) inside) in
    by_places (order a i) (order b i) (omega arith) low here high
  where
    order : (m n : ℕ) → (m < n) ⊎ ((m ≡ n) ⊎ (n < m))
    order m n = grind arith

    by_places : (a < i) ⊎ ((a ≡ i) ⊎ (i < a)) → (b < i) ⊎ ((b ≡ i) ⊎ (i < b)) → b < length xs + 1
        → ((k : ℕ) → k < i → get_or (insert xs i x) k d ≡ get_or xs k d) → get_or (insert xs i x) i d ≡ x
        → ((k : ℕ) → i < k → get_or (insert xs i x) k d ≡ get_or xs (k - 1) d) → R (get_or (insert xs i x) a d) (get_or (insert xs i x) b d)
    by_places (inl a_low) (inl b_low) b_less low here high = rw (low a a_low, low b b_low) (pairs a b d less (omega arith))
    by_places (inl a_low) (inr (inl b_here)) b_less low here high = rw (low a a_low, b_here, here) (before a d a_low)
    by_places (inl a_low) (inr (inr b_high)) b_less low here high = rw (low a a_low, high b b_high) (pairs a (b - 1) d (omega arith) (omega arith))
    by_places (inr (inl a_here)) (inl b_low) b_less low here high = absurd (omega arith)
    by_places (inr (inl a_here)) (inr (inl b_here)) b_less low here high = absurd (omega arith)
    by_places (inr (inl a_here)) (inr (inr b_high)) b_less low here high = rw (a_here, here, high b b_high) (after (b - 1) d (omega arith) (omega arith))
    by_places (inr (inr a_high)) (inl b_low) b_less low here high = absurd (omega arith)
    by_places (inr (inr a_high)) (inr (inl b_here)) b_less low here high = absurd (omega arith)
    by_places (inr (inr a_high)) (inr (inr b_high)) b_less low here high = rw (high a a_high, high b b_high) (pairs (a - 1) (b - 1) d (omega arith) (omega arith))
