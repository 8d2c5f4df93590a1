-- Sums over the tallies of a table when one tally changes.
use Rattle.std.proofs.Common.{◌≡◌, ℕ, zero, suc, ◌+◌, ◌<◌, ◌≤◌, List, [], ◌∷◌, length, get_or, set, sum_by, sym, subst, arith}
use Rattle.std.proofs.lemmas.List.Sums.{sum_by-set, get_or-le-sum_by}
use Rattle.std.specs.List.{All}
use mathlib.Core.Option.{some, some-ne-none, some-injective}
use lib.ListN.{get_elem?}

module _ {A : Type 0} where
  pub at_get : (l : List A) (i : ℕ) (a : A) → get_elem? l i ≡ some a → (i < length l) × (get_or l i a ≡ a)
  at_get [] i a e = absurd (some-ne-none a (sym e))
  at_get (x ∷ xs) zero a e = (omega arith, some-injective x a e)
  at_get (x ∷ xs) (suc i) a e = let h = at_get xs i a e in let under : i < length xs = h.0 in (omega arith, h.1)

  pub sum_set : (f : A → ℕ) (l : List A) (i : ℕ) (a b : A) → get_elem? l i ≡ some a → sum_by f (set l i b) + f a ≡ sum_by f l + f b
  sum_set f l i a b at = let here = at_get l i a at in subst (λ (c : A). sum_by f (set l i b) + f c ≡ sum_by f l + f b) here.1 (sum_by-set f l i b a here.0)

  pub le_sum : (f : A → ℕ) (l : List A) (i : ℕ) (a : A) → get_elem? l i ≡ some a → f a ≤ sum_by f l
  le_sum f l i a at = let here = at_get l i a at in subst (λ (c : A). f c ≤ sum_by f l) here.1 (get_or-le-sum_by f l i a here.0)

  pub all_at : (P : A → Type 0) (l : List A) (i : ℕ) (a : A) → All P l → get_elem? l i ≡ some a → P a
  all_at P l i a all at = let here = at_get l i a at in subst P here.1 (all i a here.0)
