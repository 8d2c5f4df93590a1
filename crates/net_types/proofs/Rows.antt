-- What a binary search finds in a list that rises by number.
use Rattle.std.proofs.Common.{◌≡◌, ℕ, zero, suc, ◌<◌, ◌≤◌, eqb, List, [], ◌∷◌, length, map, get_or, Some, None, Result, Ok, Err, IfOk, IfErr, sym, ap, refl, subst, arith, ◌∙◌}
use Rattle.std.specs.List.{find, Contains}
use Rattle.std.specs.List.Sorted.{IsSearchInRange, IsBinarySearchResult, IsNonDecreasingBy, IsStrictlyIncreasing}
use Rattle.std.specs.Ordering.{nat_cmp, ordering_index}
use Rattle.std.proofs.lemmas.Cmp.{ranked}
use Rattle.std.proofs.lemmas.List.{get_or-map, length-map}
use Rattle.std.proofs.lemmas.List.Kept.{AllPairs-from_increasing}
use Rattle.std.proofs.lemmas.Bool.Decides.{nat_tests}
use Rattle.network_model.specs.WellFormed.{Rises}
use Rattle.net_types.proofs.Finds.{find_first, find_nothing}
use Rattle.net_types.specs.Places.{IsAt, IsGap}

module _ {X : Type 0} (key : X → ℕ) (xs : List X) (rises : IsStrictlyIncreasing (map key xs)) where
  -- an earlier element has a lesser number
  pub rises_far : (i j : ℕ) (d : X) → i < j → j < length xs → key (get_or xs i d) < key (get_or xs j d)
  rises_far i j d before inside =
      let at : (n : ℕ) → n < length xs → get_or (map key xs) n 0 ≡ key (get_or xs n d) = λ n below. get_or-map key xs n d 0 below in
      let pair : get_or (map key xs) i 0 < get_or (map key xs) j 0 =
      AllPairs-from_increasing (map key xs) rises i j 0 before (omega (arith, length-map xs key)) in
      omega (arith, at i (omega arith), at j inside)

  rises_weakly : (i j : ℕ) (d : X) → i ≤ j → j < length xs → key (get_or xs i d) ≤ key (get_or xs j d)
  rises_weakly i j d before inside = grind (arith, rises_far i j d, λ (same : i ≡ j). ap (λ n. key (get_or xs n d)) same)

  comparisons_rise : (number : ℕ) → IsNonDecreasingBy (λ x. ordering_index (nat_cmp (key x) number)) xs
  comparisons_rise number i j d le inside = grind (arith, nat_tests, rises_weakly i j d le inside)

  pub searched_ok : (number : ℕ) (r : Result ℕ ℕ) → IsSearchInRange r (length xs) → IsBinarySearchResult (λ x. nat_cmp (key x) number) xs r → IfOk r (IsAt key xs number)
  searched_ok number (Ok i) inside equal = record { inside = inside; same = λ d. ranked _ number _ (sym (equal d)) }
  searched_ok number (Err i) inside parted = tt

  pub searched_err : (number : ℕ) (r : Result ℕ ℕ) → IsSearchInRange r (length xs) → IsBinarySearchResult (λ x. nat_cmp (key x) number) xs r → IfErr r (IsGap key xs number)
  searched_err number (Ok i) inside equal = tt
  searched_err number (Err i) inside parted = record {
    inside = inside;
    before = λ k d below. ranked _ number _ (sym ((parted (comparisons_rise number)).0 k d (omega arith) below));
    after = λ k d le below. ranked _ number _ (sym ((parted (comparisons_rise number)).1 k d le below));
  }

  pub found_at : (number i : ℕ) (d : X) → IsAt key xs number i → find (λ x. eqb (key x) number) xs ≡ Some (get_or xs i d)
  found_at number i d is_at = find_first (λ x. eqb (key x) number) xs i d is_at.inside (grind (arith, nat_tests, is_at.same d))
      (λ j below. grind (arith, nat_tests, is_at.same d, rises_far j i d below is_at.inside))

-- a number that has a gap stands nowhere
pub found_nowhere : {X : Type 0} (key : X → ℕ) (xs : List X) (number i : ℕ) → IsGap key xs number i → find (λ x. eqb (key x) number) xs ≡ None
found_nowhere key xs number i gap = find_nothing (λ x. eqb (key x) number) xs (λ j d below. grind (arith, nat_tests, gap.before j d, gap.after j d))

-- an element in the list, whatever is taken past its end
read_inside : {X : Type 0} (xs : List X) (n : ℕ) (d e : X) → n < length xs → get_or xs n e ≡ get_or xs n d
read_inside [] n d e inside = absurd (omega arith)
read_inside (x ∷ xs) zero d e inside = refl
read_inside (x ∷ xs) (suc n) d e inside = read_inside xs n d e (omega arith)

-- a number stands once
pub one_place : {X : Type 0} (key : X → ℕ) (xs : List X) → IsStrictlyIncreasing (map key xs) → (a b : X) → Contains xs a → Contains xs b → key a ≡ key b → a ≡ b
one_place {X} key xs rises a b (i, i_in, i_is) (j, j_in, j_is) same =
    let at_i : get_or xs i b ≡ a = read_inside xs i a b i_in ∙ i_is in
    let lt : i < j → ⊥ = λ before. let far = rises_far key xs rises i j b before j_in in omega (arith, ap key at_i, ap key j_is) in
    let gt : j < i → ⊥ = λ before. let far = rises_far key xs rises j i b before i_in in omega (arith, ap key at_i, ap key j_is) in
    let here : i ≡ j = grind (arith, lt, gt) in
    sym at_i ∙ ap (λ n. get_or xs n b) here ∙ j_is

maps_join : {X A : Type 0} (f : X → ℕ × A) (xs : List X) → map (λ e. e.0) (map f xs) ≡ map (λ x. (f x).0) xs
maps_join f [] = refl
maps_join f (x ∷ xs) = ap (λ l. (f x).0 ∷ l) (maps_join f xs)

-- the numbers of the rows are those of what they mean
pub rises_rows : {X A : Type 0} (f : X → ℕ × A) (xs : List X) → Rises (map f xs) → IsStrictlyIncreasing (map (λ x. (f x).0) xs)
rises_rows f xs rises = subst IsStrictlyIncreasing (maps_join f xs) rises

-- numbers are rows of their own
map_self : (ns : List ℕ) → map (λ n. n) ns ≡ ns
map_self [] = refl
map_self (n ∷ ns) = ap (λ l. n ∷ l) (map_self ns)

pub rises_self : (ns : List ℕ) → IsStrictlyIncreasing ns → IsStrictlyIncreasing (map (λ n. n) ns)
rises_self ns rises = subst IsStrictlyIncreasing (sym (map_self ns)) rises
