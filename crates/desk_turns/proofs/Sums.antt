-- Sums over all that is known, when one view changes.
use Rattle.std.proofs.Common.{◌≡◌, ◌≢◌, ℕ, zero, suc, ◌+◌, ◌<◌, ◌≤◌, List, [], ◌∷◌, ◌++◌, length, get_or, set, sum_by, refl, sym, ap, subst, arith}
use Rattle.std.proofs.lemmas.List.Sums.{sum_by-set, sum_by-cons, sum_by_push, get_or-le-sum_by}
use Rattle.std.specs.List.{All}
use mathlib.Core.Option.{some, some-ne-none, some-injective}
use lib.ListN.{get_elem?}
use Rattle.desk_turns.specs.declared.rule.Known.{Known}
use Rattle.desk_turns.specs.Rule.{total, numbers}

module _ {A : Type 0} where
  pub at_get : (l : List A) (i : ℕ) (a : A) → get_elem? l i ≡ some a → (i < length l) × (get_or l i a ≡ a)
  at_get [] i a e = absurd (some-ne-none a (sym e))
  at_get (x ∷ xs) zero a e = (omega arith, some-injective x a e)
  at_get (x ∷ xs) (suc i) a e = let h = at_get xs i a e in let under : i < length xs = h.0 in (omega arith, h.1)

  pub sum_set : (f : A → ℕ) (l : List A) (i : ℕ) (a b : A) → get_elem? l i ≡ some a → sum_by f (set l i b) + f a ≡ sum_by f l + f b
  sum_set f l i a b at = let here = at_get l i a at in subst (λ (c : A). sum_by f (set l i b) + f c ≡ sum_by f l + f b) here.1 (sum_by-set f l i b a here.0)

  pub le_sum : (f : A → ℕ) (l : List A) (i : ℕ) (a : A) → get_elem? l i ≡ some a → f a ≤ sum_by f l
  le_sum f l i a at = let here = at_get l i a at in subst (λ (c : A). f c ≤ sum_by f l) here.1 (get_or-le-sum_by f l i a here.0)

  pub all_at : (P : A → Type 0) (l : List A) (i : ℕ) (a : A) → All P l → get_elem? l i ≡ some a → P a
  all_at P l i a all at = let here = at_get l i a at in subst P here.1 (all i a here.0)

  pub sum_le : (f g : A → ℕ) → ((a : A) → f a ≤ g a) → (l : List A) → sum_by f l ≤ sum_by g l
  sum_le f g le [] = omega arith
  sum_le f g le (x ∷ xs) = let here = le x in let rest = sum_le f g le xs in omega (arith, sum_by-cons f x xs, sum_by-cons g x xs)

module _ (f : Known → ℕ) where
  pub sum_one : (k : Known) → sum_by f (k ∷ []) ≡ f k
  sum_one k = omega (arith, sum_by-cons f k [])

  pub total_set : (views : List (List Known)) (id : ℕ) (v w : List Known) → get_elem? views id ≡ some v → total f (set views id w) + sum_by f v ≡ total f views + sum_by f w
  total_set views id v w at = sum_set (λ ks. sum_by f ks) views id v w at

  pub one_set : (views : List (List Known)) (id : ℕ) (k l : Known) → get_elem? views id ≡ some (k ∷ []) → total f (set views id (l ∷ [])) + f k ≡ total f views + f l
  one_set views id k l at = let s = total_set views id (k ∷ []) (l ∷ []) at in omega (arith, sum_one k, sum_one l)

  pub le_total : (views : List (List Known)) (id : ℕ) (v : List Known) → get_elem? views id ≡ some v → sum_by f v ≤ total f views
  le_total views id v at = le_sum (λ ks. sum_by f ks) views id v at

  pub one_le_total : (views : List (List Known)) (id : ℕ) (k : Known) → get_elem? views id ≡ some (k ∷ []) → f k ≤ total f views
  one_le_total views id k at = let s = le_total views id (k ∷ []) at in omega (arith, sum_one k)

  pub total_push : (views : List (List Known)) (v : List Known) → total f (views ++ v ∷ []) ≡ total f views + sum_by f v
  total_push views v = sum_by_push (λ ks. sum_by f ks) views v

pub total_le : (f g : Known → ℕ) → ((k : Known) → f k ≤ g k) → (views : List (List Known)) → total f views ≤ total g views
total_le f g le views = sum_le (λ ks. sum_by f ks) (λ ks. sum_by g ks) (λ ks. sum_le f g le ks) views

-- where one view has as many numbers as all views together, it has all that is known
module _ (f : Known → ℕ) where
  none_left : (views : List (List Known)) → numbers views ≡ 0 → total f views ≡ 0
  none_left [] e = refl
  none_left ([] ∷ vs) e =
      let n = sum_by-cons (λ (ks : List Known). sum_by (λ k. 1) ks) [] vs in
      let rest = none_left vs (omega arith) in
      omega (arith, sum_by-cons (λ (ks : List Known). sum_by f ks) [] vs)
  none_left ((k ∷ ks) ∷ vs) e =
      let n = sum_by-cons (λ (ks : List Known). sum_by (λ k. 1) ks) (k ∷ ks) vs in
      let m = sum_by-cons (λ (k : Known). 1) k ks in
      absurd (omega arith)

  pub alone : (views : List (List Known)) (id : ℕ) (v : List Known) → get_elem? views id ≡ some v → numbers views ≡ sum_by (λ k. 1) v → total f views ≡ sum_by f v
  alone [] id v at e = absurd (some-ne-none v (sym at))
  alone (u ∷ us) zero v at e =
      let is : u ≡ v = some-injective u v at in
      let one : sum_by (λ (k : Known). 1) u ≡ sum_by (λ k. 1) v = ap (λ (ks : List Known). sum_by (λ k. 1) ks) is in
      let n = sum_by-cons (λ (ks : List Known). sum_by (λ k. 1) ks) u us in
      let rest = none_left us (omega arith) in
      let same : sum_by f u ≡ sum_by f v = ap (λ (ks : List Known). sum_by f ks) is in
      omega (arith, sum_by-cons (λ (ks : List Known). sum_by f ks) u us)
  alone (u ∷ us) (suc id) v at e =
      let n = sum_by-cons (λ (ks : List Known). sum_by (λ k. 1) ks) u us in
      let most = le_total (λ k. 1) us id v at in
      let here : sum_by (λ (k : Known). 1) u ≡ 0 = omega arith in
      let rest = alone us id v at (omega arith) in
      let nothing : sum_by f u ≡ 0 = empty u here in
      omega (arith, sum_by-cons (λ (ks : List Known). sum_by f ks) u us)
    where
      empty : (ks : List Known) → sum_by (λ (k : Known). 1) ks ≡ 0 → sum_by f ks ≡ 0
      empty [] z = refl
      empty (k ∷ ks) z = let m = sum_by-cons (λ (k : Known). 1) k ks in absurd (omega arith)

-- where the whole sum is that of one view, each other view has nothing
pub others_nothing : {A : Type 0} (f : A → ℕ) (l : List A) (i j : ℕ) (a b : A) → get_elem? l i ≡ some a → get_elem? l j ≡ some b → j ≢ i → sum_by f l ≤ f a → f b ≡ 0
others_nothing f [] i j a b at there apart whole = absurd (some-ne-none a (sym at))
others_nothing f (x ∷ xs) zero zero a b at there apart whole = absurd (apart refl)
others_nothing f (x ∷ xs) zero (suc j) a b at there apart whole =
    let same : f x ≡ f a = ap f (some-injective x a at) in
    let le = le_sum f xs j b there in
    omega (arith, sum_by-cons f x xs)
others_nothing f (x ∷ xs) (suc i) zero a b at there apart whole =
    let same : f x ≡ f b = ap f (some-injective x b there) in
    let le = le_sum f xs i a at in
    omega (arith, sum_by-cons f x xs)
others_nothing f (x ∷ xs) (suc i) (suc j) a b at there apart whole =
    let c = sum_by-cons f x xs in
    others_nothing f xs i j a b at there (λ e. apart (ap suc e)) (omega arith)
