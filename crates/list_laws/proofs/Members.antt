-- What lists have: their images and parts, and lists with one element more.
use Rattle.std.specs.Prelude.{◌≡◌, ◌⊎◌, ℕ, zero, suc, ◌<◌, ◌≤◌, Bool, true, false, List, [], ◌∷◌, length, map, slice_index_or}
use Rattle.std.proofs.Common.{refl, sym, ap, ◌∙◌, subst, inl, inr, arith}
use Rattle.std.specs.List.{filter, insert, Contains, All}
use Rattle.std.proofs.lemmas.List.{get_or-map, length-map}
use Rattle.std.proofs.lemmas.List.Elements.{All-contains, filter_passes}
use Rattle.std.proofs.lemmas.List.Sorted.{Contains-permutation, IsPermutation-insert, IsPermutation-sym}

pub Contains-cons_same : {A : Type 0} (x : A) (xs : List A) → Contains (x ∷ xs) x
Contains-cons_same x xs = (zero, omega arith, refl)

pub Contains-cons_later : {A : Type 0} (x y : A) (xs : List A) → Contains xs y → Contains (x ∷ xs) y
Contains-cons_later x y xs c = (suc c.0, omega arith, c.2)

place_cases : {A : Type 0} (x y : A) (xs : List A) (k : ℕ) → k < length (x ∷ xs) → slice_index_or (x ∷ xs) k y ≡ y → (x ≡ y) ⊎ Contains xs y
place_cases x y xs zero l e = inl e
place_cases x y xs (suc k) l e = inr (k, omega arith, e)

pub Contains-cons_cases : {A : Type 0} (x y : A) (xs : List A) → Contains (x ∷ xs) y → (x ≡ y) ⊎ Contains xs y
Contains-cons_cases x y xs c = place_cases x y xs c.0 c.1 c.2

pub Contains-nil : {A : Type 0} (x : A) → Contains [] x → ⊥
Contains-nil x c = omega arith

-- a list of one element has no other
pub Contains-one : {A : Type 0} (x y : A) → Contains (x ∷ []) y → y ≡ x
Contains-one x y (zero, inside, same) = sym same
Contains-one x y (suc k, inside, same) = absurd (omega arith)

-- what a list has, its image and its parts have
pub Contains-map : {X Y : Type 0} (f : X → Y) (xs : List X) (x : X) → Contains xs x → Contains (map f xs) (f x)
Contains-map f xs x (k, inside, is) = (k, omega (arith, length-map xs f), get_or-map f xs k x (f x) inside ∙ ap f is)

pub Contains-from_map : {X Y : Type 0} (f : X → Y) (xs : List X) (y : Y) → Contains (map f xs) y → (x : X) × (Contains xs x × (f x ≡ y))
Contains-from_map f [] y (k, inside, is) = absurd (omega arith)
Contains-from_map f (x ∷ xs) y (zero, inside, is) = (x, ((0, omega arith, refl), is))
Contains-from_map f (x ∷ xs) y (suc k, inside, is) =
    let (z, rest) = Contains-from_map f xs y (k, omega arith, is) in
    let ((n, n_in, n_is), same) = rest in
    (z, ((suc n, omega arith, n_is), same))

pub Contains-filter : {X : Type 0} (p : X → Bool) (xs : List X) (x : X) → Contains xs x → p x ≡ true → Contains (filter p xs) x
Contains-filter p [] x (k, inside, is) passes = absurd (omega arith)
Contains-filter p (y ∷ ys) x (zero, inside, is) passes =
    let here : p y ≡ true = rw is passes in rw here (0, omega arith, is)
Contains-filter {X} p (y ∷ ys) x (suc k, inside, is) passes = by_test (p y) refl (Contains-filter p ys x (k, omega arith, is) passes)
  where
    by_test : (b : Bool) → p y ≡ b → Contains (filter p ys) x → Contains (filter p (y ∷ ys)) x
    by_test true test rest = rw test (Contains-cons_later y x (filter p ys) rest)
    by_test false test rest = rw test rest

pub Contains-from_filter : {X : Type 0} (p : X → Bool) (xs : List X) (x : X) → Contains (filter p xs) x → Contains xs x
Contains-from_filter p [] x contained = contained
Contains-from_filter {X} p (y ∷ ys) x contained = by_test (p y) refl (Contains-from_filter p ys x)
  where
    by_test : (b : Bool) → p y ≡ b → (Contains (filter p ys) x → Contains ys x) → Contains (y ∷ ys) x
    by_test true test rest = let there : Contains (y ∷ filter p ys) x = rw test at contained in at_place there rest
      where
        at_place : Contains (y ∷ filter p ys) x → (Contains (filter p ys) x → Contains ys x) → Contains (y ∷ ys) x
        at_place (zero, inside, is) later = (0, omega arith, is)
        at_place (suc k, inside, is) later = Contains-cons_later y x ys (later (k, omega arith, is))
    by_test false test rest = Contains-cons_later y x ys (rest (rw test at contained))

pub passes_of : {X : Type 0} (p : X → Bool) (xs : List X) (x : X) → Contains (filter p xs) x → p x ≡ true
passes_of p xs x contained = All-contains (λ y. p y ≡ true) (filter p xs) x (filter_passes p xs) contained

pub All-from_map : {X Y : Type 0} (f : X → Y) (P : Y → Type 0) (xs : List X) → All P (map f xs) → All (λ x. P (f x)) xs
All-from_map f P xs all k d below = subst P (get_or-map f xs k d (f d) below) (all k (f d) (omega (arith, length-map xs f)))

pub filter_shorter : {X : Type 0} (p : X → Bool) (xs : List X) → length (filter p xs) ≤ length xs
filter_shorter p [] = omega arith
filter_shorter {X} p (x ∷ xs) = by_test (p x) refl (filter_shorter p xs)
  where
    by_test : (b : Bool) → p x ≡ b → length (filter p xs) ≤ length xs → length (filter p (x ∷ xs)) ≤ length (x ∷ xs)
    by_test true test rest = rw test (omega arith)
    by_test false test rest = rw test (omega arith)

pub filter-map : {X Y : Type 0} (f : X → Y) (p : Y → Bool) (xs : List X) → filter p (map f xs) ≡ map f (filter (λ x. p (f x)) xs)
filter-map f p [] = refl
filter-map f p (x ∷ xs) = (let rest = filter-map f p xs in grind (arith, rest))

-- a list with one more element at a place
pub Contains-inserted : {X : Type 0} (xs : List X) (i : ℕ) (x : X) → i ≤ length xs → Contains (insert xs i x) x
Contains-inserted xs i x inside = Contains-permutation (x ∷ xs) (insert xs i x) x (IsPermutation-insert xs i x) (0, omega arith, refl)

pub Contains-insert : {X : Type 0} (xs : List X) (i : ℕ) (x z : X) → i ≤ length xs → Contains xs z → Contains (insert xs i x) z
Contains-insert xs i x z inside contained = Contains-permutation (x ∷ xs) (insert xs i x) z (IsPermutation-insert xs i x) (Contains-cons_later x z xs contained)

pub Contains-from_insert : {X : Type 0} (xs : List X) (i : ℕ) (x z : X) → i ≤ length xs → Contains (insert xs i x) z → (z ≡ x) ⊎ Contains xs z
Contains-from_insert {X} xs i x z inside contained =
    by_place (Contains-permutation (insert xs i x) (x ∷ xs) z (IsPermutation-sym (x ∷ xs) (insert xs i x) (IsPermutation-insert xs i x)) contained)
  where
    by_place : Contains (x ∷ xs) z → (z ≡ x) ⊎ Contains xs z
    by_place (zero, k_in, k_is) = inl (sym k_is)
    by_place (suc k, k_in, k_is) = inr (k, omega arith, k_is)
