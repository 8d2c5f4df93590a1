-- Numbers that rise, and one more that is put in its place.
use Rattle.std.proofs.Common.{◌≡◌, ℕ, zero, suc, ◌+◌, ◌-◌, ◌<◌, ◌≤◌, List, ◌∷◌, length, get_or, Ok, Err, sym, ap, ◌∙◌, subst, inl, inr, ⊎_elim, ◌⊎◌, arith}
use Rattle.std.specs.List.{Contains, insert}
use Rattle.std.specs.List.Sorted.{IsStrictlyIncreasing, IsBinarySearchResult}
use Rattle.std.specs.Ordering.{nat_cmp}
use Rattle.std.proofs.lemmas.Bool.{cases_lt}
use Rattle.std.proofs.lemmas.List.{get_or_default}
use Rattle.std.proofs.lemmas.List.Edits.{length-insert, get_or-insert_below, get_or-insert_at, get_or-insert_above}
use Rattle.std.proofs.lemmas.List.Kept.{AllPairs-from_increasing}
use Rattle.std.proofs.lemmas.List.Sorted.{searched, IsPermutation-insert, IsPermutation-sym, Contains-permutation}
use Rattle.class_tree.specs.Among.{HasJoined}

-- what rises doesn't fall
not_falling : (xs : List ℕ) → IsStrictlyIncreasing xs → (i j : ℕ) → i ≤ j → j < length xs → get_or xs i 0 ≤ get_or xs j 0
not_falling xs rises i j le inside = ⊎_elim
    (λ (less : i < j). let below : get_or xs i 0 < get_or xs j 0 = AllPairs-from_increasing xs rises i j 0 less inside in omega arith)
    (λ (ge : j ≤ i). let same : i ≡ j = omega arith in omega (arith, ap (λ k. get_or xs k 0) same))
    (cases_lt i j)

-- a number between those that are below it and those that are above it
pub rises_between : (xs : List ℕ) (place n : ℕ) → IsStrictlyIncreasing xs → place ≤ length xs → ((k : ℕ) → k < place → get_or xs k 0 < n)
    → ((k : ℕ) → place ≤ k → k < length xs → n < get_or xs k 0) → IsStrictlyIncreasing (insert xs place n)
rises_between xs place n rises inside below above k short =
    let size : length (insert xs place n) ≡ length xs + 1 = length-insert xs place n inside in
    let more : length xs + 1 ≡ length (insert xs place n) = sym size in
    ⊎_elim
    (λ (first : k < place).
    let here : get_or (insert xs place n) k 0 ≡ get_or xs k 0 = get_or-insert_below xs place n 0 k first inside in
    ⊎_elim
    (λ (next : k + 1 < place).
    let there : get_or (insert xs place n) (k + 1) 0 ≡ get_or xs (k + 1) 0 = get_or-insert_below xs place n 0 (k + 1) next inside in
    let step : get_or xs k 0 < get_or xs (k + 1) 0 = rises k (omega arith) in
    omega arith)
    (λ (next : place ≤ k + 1).
    let same : place ≡ k + 1 = omega arith in
    let there : get_or (insert xs place n) (k + 1) 0 ≡ n = subst (λ i. get_or (insert xs place n) i 0 ≡ n) same (get_or-insert_at xs place n 0 inside) in
    let step : get_or xs k 0 < n = below k first in
    omega arith)
    (cases_lt (k + 1) place))
    (λ (later : place ≤ k).
    let there : get_or (insert xs place n) (k + 1) 0 ≡ get_or xs k 0 = get_or-insert_above xs place n 0 k later inside in
    ⊎_elim
    (λ (past : place < k).
    let before : get_or (insert xs place n) (k - 1 + 1) 0 ≡ get_or xs (k - 1) 0 = get_or-insert_above xs place n 0 (k - 1) (omega arith) inside in
    let whole : k - 1 + 1 ≡ k = omega arith in
    let here : get_or (insert xs place n) k 0 ≡ get_or xs (k - 1) 0 = subst (λ i. get_or (insert xs place n) i 0 ≡ get_or xs (k - 1) 0) whole before in
    let step : get_or xs (k - 1) 0 < get_or xs (k - 1 + 1) 0 = rises (k - 1) (omega arith) in
    let step' : get_or xs (k - 1) 0 < get_or xs k 0 = subst (λ i. get_or xs (k - 1) 0 < get_or xs i 0) whole step in
    omega arith)
    (λ (at : k ≤ place).
    let same : place ≡ k = omega arith in
    let here : get_or (insert xs place n) k 0 ≡ n = subst (λ i. get_or (insert xs place n) i 0 ≡ n) same (get_or-insert_at xs place n 0 inside) in
    let step : n < get_or xs k 0 = above k later (omega arith) in
    omega arith)
    (cases_lt place k))
    (cases_lt k place)

contains_cons : (x : ℕ) (xs : List ℕ) (n : ℕ) → Contains (x ∷ xs) n → Contains xs n ⊎ (x ≡ n)
contains_cons x xs n (zero, inside, at) = inr at
contains_cons x xs n (suc k, inside, at) = inl (k, omega arith, at)

-- a number that isn't there is put in its place
pub joined_insert : (xs : List ℕ) (n place : ℕ) (P : ℕ → Type 0) → IsBinarySearchResult (λ y. nat_cmp y n) xs (Err place) → P n → ((m : ℕ) → P m → m ≡ n)
    → HasJoined P xs (insert xs place n)
joined_insert xs n place P result own only = record {
  rises = λ rises. let at = searched xs n (Err place) result (not_falling xs rises) in rises_between xs place n rises at.0 at.1 at.2;
  exact = λ rises m. (
    (λ there. ⊎_elim
        (λ here. inl here)
        (λ (same : n ≡ m). inr (subst P same own))
        (contains_cons n xs m (Contains-permutation (insert xs place n) (n ∷ xs) m (IsPermutation-sym (n ∷ xs) (insert xs place n) (IsPermutation-insert xs place n)) there))),
    (λ there. Contains-permutation (n ∷ xs) (insert xs place n) m (IsPermutation-insert xs place n)
        (⊎_elim
        (λ here. (suc here.0, omega (arith, here.1), here.2))
        (λ p. let same : m ≡ n = only m p in (0, omega arith, sym same))
        there)),
  );
}

-- a number that is there
pub joined_found : (xs : List ℕ) (n place : ℕ) (P : ℕ → Type 0) → IsBinarySearchResult (λ y. nat_cmp y n) xs (Ok place) → ((m : ℕ) → P m → m ≡ n) → HasJoined P xs xs
joined_found xs n place P result only = record {
  rises = λ rises. rises;
  exact = λ rises m. (
    (λ there. inl there),
    (λ there. ⊎_elim
        (λ here. here)
        (λ p.
        let at = searched xs n (Ok place) result (not_falling xs rises) in
        let same : m ≡ n = only m p in
        (place, at.0, get_or_default xs place m 0 at.0 ∙ (at.1 ∙ sym same)))
        there),
  );
}
