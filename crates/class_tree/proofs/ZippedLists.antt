-- Lists whose elements go together one by one.
use Rattle.std.proofs.Common.{◌≡◌, ℕ, zero, suc, ◌<◌, List, [], ◌∷◌, length, get_or, refl, subst, arith}
use Rattle.std.specs.List.{All, AllPairs, AllZip, Contains}
use Rattle.std.proofs.lemmas.List.Elements.{Contains-get_or}
use Rattle.std.proofs.lemmas.List.Kept.{AllPairs-cons}

pub zip_left : {A B : Type 0} (R : A → B → Type 0) (xs : List A) (ys : List B) (x : A) → AllZip R xs ys → Contains xs x → (y : B) × Contains ys y × R x y
zip_left {A} {B} R xs ys x zip c = at xs ys zip c.0 c.1 c.2
  where
    at : (as_ : List A) (bs : List B) → AllZip R as_ bs → (k : ℕ) → k < length as_ → get_or as_ k x ≡ x → (y : B) × Contains bs y × R x y
    at [] bs z k l e = absurd (omega arith)
    at (a ∷ as_) [] z k l e = absurd z
    at (a ∷ as_) (b ∷ bs) z zero l e = (b, (zero, omega arith, refl), subst (λ (c : A). R c b) e z.0)
    at (a ∷ as_) (b ∷ bs) z (suc k) l e =
        let (y, (j, m, f), r) = at as_ bs z.1 k (omega arith) e in (y, (suc j, omega arith, f), r)

zip_flipped : {A B : Type 0} (R : A → B → Type 0) (xs : List A) (ys : List B) → AllZip R xs ys → AllZip (λ b a. R a b) ys xs
zip_flipped R [] [] zip = tt
zip_flipped R [] (y ∷ ys) zip = absurd zip
zip_flipped R (x ∷ xs) [] zip = absurd zip
zip_flipped R (x ∷ xs) (y ∷ ys) zip = (zip.0, zip_flipped R xs ys zip.1)

pub zip_right : {A B : Type 0} (R : A → B → Type 0) (xs : List A) (ys : List B) (y : B) → AllZip R xs ys → Contains ys y → (x : A) × Contains xs x × R x y
zip_right R xs ys y zip c = zip_left (λ b a. R a b) ys xs y (zip_flipped R xs ys zip) c

-- what holds of each on the left holds beside its partner
pub zip_with_left : {A B : Type 0} (R : A → B → Type 0) (P : A → Type 0) (xs : List A) (ys : List B) → AllZip R xs ys → ((x : A) → Contains xs x → P x)
    → AllZip (λ a b. R a b × P a) xs ys
zip_with_left R P [] [] zip each = tt
zip_with_left R P [] (y ∷ ys) zip each = absurd zip
zip_with_left R P (x ∷ xs) [] zip each = absurd zip
zip_with_left R P (x ∷ xs) (y ∷ ys) zip each =
    ((zip.0, each x (zero, omega arith, refl)), zip_with_left R P xs ys zip.1 (λ a (k, l, at). each a (suc k, omega arith, at)))

-- what holds of all pairs holds of the pairs that go with them
pub zip_pairs : {A B : Type 0} (R : A → B → Type 0) (Q : A → A → Type 0) (P : B → B → Type 0)
    → ((a b : A) (x y : B) → R a x → R b y → Q a b → P x y) → (xs : List A) (ys : List B) → AllZip R xs ys → AllPairs Q xs → AllPairs P ys
zip_pairs R Q P carry [] [] zip pairs = λ i j d l m. absurd (omega arith)
zip_pairs R Q P carry [] (y ∷ ys) zip pairs = absurd zip
zip_pairs R Q P carry (x ∷ xs) [] zip pairs = absurd zip
zip_pairs {A} R Q P carry (x ∷ xs) (y ∷ ys) zip pairs =
    AllPairs-cons P y ys
    (λ k d inside.
    let (a, (j, l, at), r) = zip_right R xs ys (get_or ys k d) zip.1 (Contains-get_or ys k d inside) in
    carry x a y (get_or ys k d) zip.0 r (subst (λ (b : A). Q x b) at (pairs zero (suc j) a (omega arith) (omega arith))))
    (zip_pairs R Q P carry xs ys zip.1 (λ i j d l m. pairs (suc i) (suc j) d (omega arith) (omega arith)))

-- what holds of each that a list has holds of all of it
pub all_from_contained : {A : Type 0} (P : A → Type 0) (xs : List A) → ((x : A) → Contains xs x → P x) → All P xs
all_from_contained P xs each k d inside = each (get_or xs k d) (Contains-get_or xs k d inside)
