-- What stands at a place of a list, and the parts before and from there on.
use Rattle.std.proofs.Common.{◌≡◌, ℕ, zero, suc, ◌+◌, ◌-◌, ◌<◌, ◌≤◌, List, [], ◌∷◌, ◌++◌, length, take, drop, get_or, Option, Some, None, IsSome, refl, ap, ◌∙◌, add-one, arith}
use Rattle.std.specs.List.{slice_get}
use Rattle.std.proofs.Math.Seq.{drop-cons}
use Rattle.std.proofs.lemmas.Option.{get_or_from_slice_get, slice_get_within}

pub is_there : {A : Type 0} (xs : List A) (i : ℕ) → i < length xs → IsSome (slice_get xs i)
is_there [] i h = absurd (omega arith)
is_there (x ∷ xs) zero h = refl
is_there (x ∷ xs) (suc i) h = is_there xs i (omega arith)

take_suc : {A : Type 0} (xs : List A) (i : ℕ) (x : A) → slice_get xs i ≡ Some x → take (suc i) xs ≡ take i xs ++ x ∷ []
take_suc [] i x h = cc
take_suc (y ∷ ys) zero x h = cc
take_suc (y ∷ ys) (suc i) x h = ap (λ l. y ∷ l) (take_suc ys i x h)

-- one more element is taken
pub take_next : {A : Type 0} (xs : List A) (i : ℕ) (x : A) → slice_get xs i ≡ Some x → take (i + 1) xs ≡ take i xs ++ x ∷ []
take_next xs i x h = rw add-one (take_suc xs i x h)

-- all are taken
pub take_whole : {A : Type 0} (xs : List A) (i : ℕ) → slice_get xs i ≡ None → take i xs ≡ xs
take_whole [] zero h = refl
take_whole [] (suc i) h = refl
take_whole (x ∷ xs) zero h = cc
take_whole (x ∷ xs) (suc i) h = ap (λ l. x ∷ l) (take_whole xs i h)

-- one more element is dropped
pub drop_found : {X : Type 0} (xs : List X) (i : ℕ) (x : X) → slice_get xs i ≡ Some x → drop i xs ≡ x ∷ drop (i + 1) xs
drop_found xs i x e =
    let within : i < length xs = slice_get_within xs i x e in
    let here : get_or xs i x ≡ x = get_or_from_slice_get xs i x x e in
    drop-cons xs i x within ∙ ap (λ y. y ∷ drop (suc i) xs) here ∙ rw add-one refl

-- a list that isn't empty has a last element
pub split_last : {A : Type 0} (xs : List A) (n : ℕ) → length xs ≡ n + 1 → (front : List A) × (last : A) × (xs ≡ front ++ last ∷ []) × (length front ≡ n)
split_last [] n h = absurd (omega arith)
split_last (x ∷ []) n h = ([], x, refl, omega arith)
split_last (x ∷ y ∷ ys) zero h = absurd (omega arith)
split_last (x ∷ y ∷ ys) (suc n) h =
    let rest = split_last (y ∷ ys) n (omega arith) in
    (x ∷ rest.0, rest.1, ap (λ l. x ∷ l) rest.2, omega (arith, rest.3))

-- lists that end in a further element are equal where both parts are
pub same_front : {A : Type 0} (xs ys : List A) (a b : A) → xs ++ a ∷ [] ≡ ys ++ b ∷ [] → (xs ≡ ys) × (a ≡ b)
same_front [] [] a b h = (refl, cc)
same_front [] (y ∷ []) a b h = cc
same_front [] (y ∷ z ∷ ys) a b h = cc
same_front (x ∷ []) [] a b h = cc
same_front (x ∷ w ∷ xs) [] a b h = cc
same_front {A} (x ∷ xs) (y ∷ ys) a b h =
    let tails : xs ++ a ∷ [] ≡ ys ++ b ∷ [] = cc in
    let heads : x ≡ y = cc in
    let rest = same_front xs ys a b tails in
    let fronts : xs ≡ ys = rest.0 in
    (cc, rest.1)

pub empty : {A : Type 0} (xs : List A) → length xs ≡ 0 → xs ≡ []
empty [] h = refl
empty (x ∷ xs) h = absurd (omega arith)
