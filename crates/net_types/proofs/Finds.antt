-- What `find` gives: the first element that passes, or nothing.
use Rattle.std.proofs.Common.{◌≡◌, ℕ, zero, suc, ◌<◌, eqb, Bool, true, false, List, [], ◌∷◌, length, map, get_or, Option, Some, None, sym, ap, refl, arith, ◌∙◌}
use Rattle.std.specs.List.{find, Contains, All}
use Rattle.std.specs.Option.{option_map}
use Rattle.network_model.specs.Network.{value_at}

-- the first element that passes is what `find` gives
pub find_first : {X : Type 0} (p : X → Bool) (xs : List X) (i : ℕ) (d : X) → i < length xs → p (get_or xs i d) ≡ true → ((j : ℕ) → j < i → p (get_or xs j d) ≡ false) → find p xs ≡ Some (get_or xs i d)
find_first p [] i d inside passes fail = absurd (omega arith)
find_first p (x ∷ xs) zero d inside passes fail = grind (arith, passes)
find_first p (x ∷ xs) (suc i) d inside passes fail =
    let rest : find p xs ≡ Some (get_or xs i d) = find_first p xs i d (omega arith) passes (λ j below. fail (suc j) (omega arith)) in
    grind (arith, fail 0 (omega arith), rest)

-- where none passes, it gives nothing
pub find_nothing : {X : Type 0} (p : X → Bool) (xs : List X) → ((j : ℕ) (d : X) → j < length xs → p (get_or xs j d) ≡ false) → find p xs ≡ None
find_nothing p [] fail = refl
find_nothing p (x ∷ xs) fail =
    let rest : find p xs ≡ None = find_nothing p xs (λ j d below. fail (suc j) d (omega arith)) in
    grind (arith, fail 0 x (omega arith), rest)

-- how `find` came by its answer
pub data Found {X : Type 0} (p : X → Bool) (xs : List X) : Type 0 where
  Nowhere : (none : find p xs ≡ None) (fail : (x : X) → Contains xs x → p x ≡ false) → Found p xs
  First : (i : ℕ) (x : X) (some : find p xs ≡ Some x) (inside : i < length xs) (is : (d : X) → get_or xs i d ≡ x) (passes : p x ≡ true) (fail : (j : ℕ) (d : X) → j < i → p (get_or xs j d) ≡ false) → Found p xs

found_head : {X : Type 0} (p : X → Bool) (x : X) (xs : List X) (b : Bool) → p x ≡ b → Found p xs → Found p (x ∷ xs)
found_head p x xs true passes rest = First 0 x (grind (arith, passes)) (omega arith) (λ d. refl) passes (λ j d below. absurd (omega arith))
found_head {X} p x xs false fails (Nowhere none fail) = Nowhere (grind (arith, fails, none)) (λ y (k, below, is). not_here y k below is)
  where
    not_here : (y : X) (k : ℕ) → k < length (x ∷ xs) → get_or (x ∷ xs) k y ≡ y → p y ≡ false
    not_here y zero below is = rw (← is) fails
    not_here y (suc k) below is = fail y (k, omega arith, is)
found_head {X} p x xs false fails (First i y some inside is passes fail) = First (suc i) y (grind (arith, fails, some)) (omega arith) is passes earlier
  where
    earlier : (j : ℕ) (d : X) → j < suc i → p (get_or (x ∷ xs) j d) ≡ false
    earlier zero d below = fails
    earlier (suc j) d below = fail j d (omega arith)

pub found : {X : Type 0} (p : X → Bool) (xs : List X) → Found p xs
found p [] = Nowhere refl (λ y (k, below, is). absurd (omega arith))
found p (x ∷ xs) = found_head p x xs (p x) refl (found p xs)

-- an element that passes is found where none other passes
pub find_only : {X : Type 0} (p : X → Bool) (xs : List X) (r : X) → Contains xs r → p r ≡ true → ((x : X) → Contains xs x → p x ≡ true → x ≡ r) → find p xs ≡ Some r
find_only p xs r contained passes only = elim (found p xs) [
  | Nowhere none fail ↦ absurd (let fails = fail r contained in cc)
  | First i x some inside is here fail ↦ some ∙ ap Some (only x (i, inside, is x) here)
]

-- `find` by tests that agree on the list
pub find-map : {X Y : Type 0} (f : X → Y) (p : X → Bool) (q : Y → Bool) (xs : List X) → All (λ x. p x ≡ q (f x)) xs → option_map f (find p xs) ≡ find q (map f xs)
find-map f p q [] agree = refl
find-map f p q (x ∷ xs) agree =
    let rest : option_map f (find p xs) ≡ find q (map f xs) = find-map f p q xs (λ k d below. agree (suc k) d (omega arith)) in
    let here : p x ≡ q (f x) = agree 0 x (omega arith) in
    grind (arith, rest, here)

-- a look-up by number is a `find`
pub value_at-map : {X A : Type 0} (f : X → ℕ × A) (xs : List X) (id : ℕ) → value_at (map f xs) id ≡ option_map (λ x. (f x).1) (find (λ x. eqb (f x).0 id) xs)
value_at-map f [] id = refl
value_at-map f (x ∷ xs) id = let rest = value_at-map f xs id in grind (arith, rest)

pub looked_up : {X A : Type 0} (f : X → ℕ × A) (xs : List X) (id : ℕ) (answer : Option X) → answer ≡ find (λ x. eqb (f x).0 id) xs → option_map (λ x. (f x).1) answer ≡ value_at (map f xs) id
looked_up f xs id answer is = ap (option_map (λ x. (f x).1)) is ∙ sym (value_at-map f xs id)
