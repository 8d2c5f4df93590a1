-- Numbers in rising order, each once.
use Rattle.std.specs.Prelude.{◌≡◌, ◌⊎◌, ℕ, ◌<◌, Bool, true, false, nat_lt, nat_eq, cond, List, [], ◌∷◌, Contains}
use Rattle.std.specs.List.{AllByRecursion}
use Rattle.std.specs.List.Sorted.{IsStrictlySortedBy}
use Rattle.std.specs.Ordering.{nat_cmp}
use Rattle.std.specs.declared.cmp.Ordering.TheVariants.{Less}
use Rattle.std.proofs.Common.{refl, sym, subst, inl, inr, ⊎_elim, arith, rules}
use Rattle.std.proofs.lemmas.Bool.{eqb-true, eqb-false, ltb-true, ltb-false}
use Rattle.std.proofs.lemmas.Cmp.{nat_cmp_total}
use Rattle.list_laws.proofs.Members.{Contains-cons_same, Contains-cons_later, Contains-cons_cases, Contains-nil, Contains-one}
use Rattle.fault_model.specs.Findings.{placed, by_number}

-- a fact of what placing may give
at_place : (Q : List ℕ → Type 0) (n m : ℕ) (ms : List ℕ) → (n < m → Q (n ∷ m ∷ ms)) → (n ≡ m → Q (m ∷ ms)) → (m < n → Q (m ∷ placed n ms)) → Q (placed n (m ∷ ms))
at_place Q n m ms less same more = by_less (nat_lt n m) refl
  where
    by_less : (b : Bool) → nat_lt n m ≡ b → Q (cond b (n ∷ m ∷ ms) (cond (nat_eq n m) (m ∷ ms) (m ∷ placed n ms)))
    by_less true is = less (ltb-true n m is)
    by_less false is = by_equal is (nat_eq n m) refl
      where
        by_equal : nat_lt n m ≡ false → (b : Bool) → nat_eq n m ≡ b → Q (cond b (m ∷ ms) (m ∷ placed n ms))
        by_equal not_less true same_is = same (eqb-true n m same_is)
        by_equal not_less false apart_is =
            let apart = eqb-false n m apart_is in
            let up = ltb-false n m not_less in
            more (omega arith)

placed_has : (n : ℕ) (ms : List ℕ) → Contains (placed n ms) n
placed_has n [] = Contains-cons_same n []
placed_has n (m ∷ ms) =
    at_place (λ l. Contains l n) n m ms (λ _. Contains-cons_same n (m ∷ ms)) (λ same. subst (Contains (m ∷ ms)) (sym same) (Contains-cons_same m ms))
    (λ _. Contains-cons_later m n (placed n ms) (placed_has n ms))

placed_kept : (n k : ℕ) (ms : List ℕ) → Contains ms k → Contains (placed n ms) k
placed_kept n k [] c = absurd (Contains-nil k c)
placed_kept n k (m ∷ ms) c =
    at_place (λ l. Contains l k) n m ms (λ _. Contains-cons_later n k (m ∷ ms) c) (λ _. c)
    (λ _. ⊎_elim (λ same. subst (Contains (m ∷ placed n ms)) same (Contains-cons_same m (placed n ms)))
    (λ later. Contains-cons_later m k (placed n ms) (placed_kept n k ms later)) (Contains-cons_cases m k ms c))

placed_cases : (n k : ℕ) (ms : List ℕ) → Contains (placed n ms) k → (n ≡ k) ⊎ Contains ms k
placed_cases n k [] c = inl (sym (Contains-one n k c))
placed_cases n k (m ∷ ms) c =
    at_place (λ l. Contains l k → (n ≡ k) ⊎ Contains (m ∷ ms) k) n m ms (λ _ d. Contains-cons_cases n k (m ∷ ms) d) (λ _ d. inr d)
    (λ _ d. ⊎_elim (λ same. inr (subst (Contains (m ∷ ms)) same (Contains-cons_same m ms)))
    (λ later. ⊎_elim (λ e. inl e) (λ there. inr (Contains-cons_later m k ms there)) (placed_cases n k ms later)) (Contains-cons_cases m k (placed n ms) d)) c

-- the numbers are those of the list
pub by_number_has : (ns : List ℕ) (k : ℕ) → Contains ns k → Contains (by_number ns) k
by_number_has [] k c = c
by_number_has (n ∷ ns) k c =
    ⊎_elim (λ same. subst (Contains (placed n (by_number ns))) same (placed_has n (by_number ns)))
    (λ later. placed_kept n k (by_number ns) (by_number_has ns k later)) (Contains-cons_cases n k ns c)

pub by_number_from : (ns : List ℕ) (k : ℕ) → Contains (by_number ns) k → Contains ns k
by_number_from [] k c = c
by_number_from (n ∷ ns) k c =
    ⊎_elim (λ same. subst (Contains (n ∷ ns)) same (Contains-cons_same n ns))
    (λ later. Contains-cons_later n k ns (by_number_from ns k later)) (placed_cases n k (by_number ns) c)

less_cmp : (a b : ℕ) → a < b → nat_cmp a b ≡ Less
less_cmp a b h = search (rules, h)

all_below : (n m : ℕ) (ms : List ℕ) → n < m → AllByRecursion (λ y. nat_cmp m y ≡ Less) ms → AllByRecursion (λ y. nat_cmp n y ≡ Less) ms
all_below n m [] less all = all
all_below n m (k ∷ ks) less all = (nat_cmp_total.trans n m k (less_cmp n m less) all.0, all_below n m ks less all.1)

all_placed : (P : ℕ → Type 0) (n : ℕ) (ms : List ℕ) → P n → AllByRecursion P ms → AllByRecursion P (placed n ms)
all_placed P n [] p all = (p, all)
all_placed P n (m ∷ ms) p all = at_place (AllByRecursion P) n m ms (λ _. (p, all)) (λ _. all) (λ _. (all.0, all_placed P n ms p all.1))

placed_sorted : (n : ℕ) (ms : List ℕ) → IsStrictlySortedBy nat_cmp ms → IsStrictlySortedBy nat_cmp (placed n ms)
unfolding IsStrictlySortedBy
placed_sorted n [] sorted = (tt, tt)
placed_sorted n (m ∷ ms) sorted =
    at_place (IsStrictlySortedBy nat_cmp) n m ms (λ less. ((less_cmp n m less, all_below n m ms less sorted.0), sorted)) (λ _. sorted)
    (λ more. (all_placed (λ y. nat_cmp m y ≡ Less) n ms (less_cmp m n more) sorted.0, placed_sorted n ms sorted.1))

-- they rise
pub by_number_sorted : (ns : List ℕ) → IsStrictlySortedBy nat_cmp (by_number ns)
unfolding IsStrictlySortedBy
by_number_sorted [] = tt
by_number_sorted (n ∷ ns) = placed_sorted n (by_number ns) (by_number_sorted ns)
