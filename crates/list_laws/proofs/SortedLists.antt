-- Two lists that rise strictly in a total order and have the same elements are one list.
use Rattle.std.specs.Prelude.{◌≡◌, List, [], ◌∷◌, Contains}
use Rattle.std.proofs.Common.{refl, sym, ap, ◌∙◌, subst, ⊎_elim}
use Rattle.std.proofs.lemmas.List.Elements.{All-from_recursion, All-contains}
use Rattle.std.proofs.lemmas.Map.Keys.{sorted_head, sorted_tail}
use Rattle.std.specs.Cmp.{IsTotalOrder}
use Rattle.std.specs.Ordering.{ordering_reverse}
use Rattle.std.specs.List.Sorted.{IsStrictlySortedBy}
use Rattle.std.specs.declared.cmp.Ordering.{Ordering}
use Rattle.std.specs.declared.cmp.Ordering.TheVariants.{Less, Greater}
use Rattle.list_laws.proofs.Members.{Contains-cons_same, Contains-cons_later, Contains-cons_cases, Contains-nil}

module _ {K : Type 0} {R : K → K → Ordering} (o : IsTotalOrder R) where
  later_above : (x : K) (xs : List K) → IsStrictlySortedBy R (x ∷ xs) → (y : K) → Contains xs y → R x y ≡ Less
  later_above x xs s y c = All-contains (λ z. R x z ≡ Less) xs y (All-from_recursion (λ z. R x z ≡ Less) xs (sorted_head R x xs s)) c

  not_both : (x y : K) → R x y ≡ Less → R y x ≡ Less → ⊥
  not_both x y h k = let e = o.antisymm x y in let r : Less ≡ Greater = sym h ∙ (e ∙ ap ordering_reverse k) in cc

  same_heads : (x y : K) (xs ys : List K) → IsStrictlySortedBy R (x ∷ xs) → IsStrictlySortedBy R (y ∷ ys) → Contains (y ∷ ys) x → Contains (x ∷ xs) y → x ≡ y
  same_heads x y xs ys s t c d =
      ⊎_elim (λ e. sym e) (λ later. ⊎_elim (λ e. e) (λ also. absurd (not_both x y (later_above x xs s y also) (later_above y ys t x later))) (Contains-cons_cases x y xs d)) (Contains-cons_cases y x ys c)

  -- an element of the rest of one list is in the rest of the other
  same_rests : (x y : K) (xs ys : List K) → IsStrictlySortedBy R (x ∷ xs) → x ≡ y → ((z : K) → Contains (x ∷ xs) z → Contains (y ∷ ys) z) → (z : K) → Contains xs z → Contains ys z
  same_rests x y xs ys s e all z c =
      let above : R x z ≡ Less = later_above x xs s z c in
      ⊎_elim (λ f. let same : x ≡ z = e ∙ f in absurd (not_both x z above (subst (λ w. R w x ≡ Less) same (subst (λ w. R x w ≡ Less) (sym same) above)))) (λ d. d) (Contains-cons_cases y z ys (all z (Contains-cons_later x z xs c)))

  -- two lists that rise strictly and have the same elements are equal
  pub same_from_sorted : (xs ys : List K) → IsStrictlySortedBy R xs → IsStrictlySortedBy R ys → ((x : K) → Contains xs x → Contains ys x) → ((y : K) → Contains ys y → Contains xs y) → xs ≡ ys
  same_from_sorted [] [] s t f g = refl
  same_from_sorted [] (y ∷ ys) s t f g = absurd (Contains-nil y (g y (Contains-cons_same y ys)))
  same_from_sorted (x ∷ xs) [] s t f g = absurd (Contains-nil x (f x (Contains-cons_same x xs)))
  same_from_sorted (x ∷ xs) (y ∷ ys) s t f g =
      let e : x ≡ y = same_heads x y xs ys s t (f x (Contains-cons_same x xs)) (g y (Contains-cons_same y ys)) in
      let rest : xs ≡ ys = same_from_sorted xs ys (sorted_tail R x xs s) (sorted_tail R y ys t) (same_rests x y xs ys s e f) (same_rests y x ys xs t (sym e) g) in
      cc
