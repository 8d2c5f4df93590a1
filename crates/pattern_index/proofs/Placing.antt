-- Keys with the places of their patterns: which places have come so far.
use Rattle.std.proofs.Common.{◌≡◌, ℕ, ◌+◌, ◌<◌, ◌⊎◌, inl, inr, List, [], ◌∷◌, ◌++◌, map, sym, subst, arith}
use Rattle.std.specs.List.{Contains}
use Rattle.std.proofs.lemmas.List.{map-append}
use Rattle.std.proofs.lemmas.List.Elements.{Contains-append_left, Contains-push}

pub keyed_push : (xs : List (ℕ × ℕ)) (e : ℕ × ℕ) (n : ℕ) → e.1 ≡ n → ((k : ℕ) → k < n → Contains (map (λ (key : ℕ × ℕ). key.1) xs) k) → (k : ℕ) → k < n + 1 → Contains (map (λ (key : ℕ × ℕ). key.1) (xs ++ e ∷ [])) k
keyed_push xs e n is so_far k below =
    let f : ℕ × ℕ → ℕ = λ key. key.1 in
    subst (λ (ys : List ℕ). Contains ys k) (sym (map-append f xs (e ∷ []))) (
    elim (cases (f e) k n is below) as (λ _. Contains (map f xs ++ e.1 ∷ []) k) [
      | inl lower ↦ Contains-append_left (map f xs) (e.1 ∷ []) k (so_far k lower)
      | inr same ↦ subst (λ j. Contains (map f xs ++ e.1 ∷ []) j) same (Contains-push (map f xs) e.1)
    ]
    )
  where
    cases : (v k n : ℕ) → v ≡ n → k < n + 1 → (k < n) ⊎ (v ≡ k)
    cases v k n is below = grind arith
