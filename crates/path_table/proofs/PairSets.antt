-- Sets of pairs of numbers: a query finds just the pairs that are there.
use Rattle.std.specs.Prelude.{◌≡◌, ◌↔◌, ◌⊎◌, ℕ, Bool, true, false, cond, List, Contains, nat_eq}
use Rattle.std.specs.List.{list_any, filter}
use Rattle.std.specs.Ordering.{nat_cmp, ordering_then, is_eq, eq_by_cmp}
use Rattle.std.specs.declared.cmp.Ordering.{Ordering}
use Rattle.std.specs.declared.cmp.Ordering.TheVariants.{Less, Equal, Greater}
use Rattle.std.proofs.Common.{[], ◌∷◌, ◌||◌, refl, sym, ap, ◌∙◌, subst, inl, inr, ⊎_elim, rules}
use Rattle.std.proofs.lemmas.Map.Lookups.{exact_unsigned, exact_pairs}
use Rattle.std.proofs.lemmas.Map.Views.{Contains-from_any}
use Rattle.list_laws.proofs.Members.{Contains-nil, Contains-cons_cases, Contains-filter, Contains-from_filter, passes_of}
use Rattle.path_table.proofs.Among.{among}

abbrev pub pair_cmp : ℕ × ℕ → ℕ × ℕ → Ordering
pair_cmp a b = ordering_then (nat_cmp a.0 b.0) (nat_cmp a.1 b.1)

test_exact : (a b : ℕ × ℕ) → eq_by_cmp pair_cmp a b ≡ true → a ≡ b
test_exact a b found = at (pair_cmp a b) refl found
  where
    at : (o : Ordering) → pair_cmp a b ≡ o → is_eq o ≡ true → a ≡ b
    at Less same e = cc
    at Equal same e = exact_pairs nat_cmp nat_cmp exact_unsigned exact_unsigned a b same
    at Greater same e = cc

number_itself : (n : ℕ) → nat_cmp n n ≡ Equal
number_itself n = search rules

test_itself : (a : ℕ × ℕ) → eq_by_cmp pair_cmp a a ≡ true
test_itself a = rw (number_itself a.0, number_itself a.1) refl

any_later : (b c : Bool) → c ≡ true → (b || c) ≡ true
any_later true c e = refl
any_later false c e = e

any_there : (ks : List (ℕ × ℕ)) (q : ℕ × ℕ) → Contains ks q → list_any (eq_by_cmp pair_cmp q) ks ≡ true
any_there [] q there = absurd (Contains-nil q there)
any_there (k ∷ ks) q there = ⊎_elim
    (λ same. ap (λ (b : Bool). b || list_any (eq_by_cmp pair_cmp q) ks) (subst (λ p. eq_by_cmp pair_cmp q p ≡ true) (sym same) (test_itself q)))
    (λ later. any_later (eq_by_cmp pair_cmp q k) (list_any (eq_by_cmp pair_cmp q) ks) (any_there ks q later))
    (Contains-cons_cases k q ks there)

pub finds : (ks : List (ℕ × ℕ)) (q : ℕ × ℕ) → (list_any (eq_by_cmp pair_cmp q) ks ≡ true) ↔ Contains ks q
finds ks q = (Contains-from_any test_exact q ks, any_there ks q)

-- a set with one more pair
pub adds : (old new : List (ℕ × ℕ)) (k q : ℕ × ℕ) → list_any (eq_by_cmp pair_cmp q) new ≡ cond (eq_by_cmp pair_cmp k q) true (list_any (eq_by_cmp pair_cmp q) old)
    → Contains new q ↔ (Contains old q ⊎ ((q.0 ≡ k.0) × (q.1 ≡ k.1)))
adds old new k q e = (λ there. by_test (eq_by_cmp pair_cmp k q) refl (sym e ∙ (finds new q).1 there), λ there. (finds new q).0 (e ∙ ⊎_elim earlier itself there))
  where
    by_test : (b : Bool) → eq_by_cmp pair_cmp k q ≡ b → cond b true (list_any (eq_by_cmp pair_cmp q) old) ≡ true → Contains old q ⊎ ((q.0 ≡ k.0) × (q.1 ≡ k.1))
    by_test true same held = let one : k ≡ q = test_exact k q same in inr (ap (λ (p : ℕ × ℕ). p.0) (sym one), ap (λ (p : ℕ × ℕ). p.1) (sym one))
    by_test false same held = inl ((finds old q).0 held)

    both : (b c : Bool) → c ≡ true → cond b true c ≡ true
    both true c held = refl
    both false c held = held

    earlier : Contains old q → cond (eq_by_cmp pair_cmp k q) true (list_any (eq_by_cmp pair_cmp q) old) ≡ true
    earlier there = both (eq_by_cmp pair_cmp k q) (list_any (eq_by_cmp pair_cmp q) old) ((finds old q).1 there)

    itself : (q.0 ≡ k.0) × (q.1 ≡ k.1) → cond (eq_by_cmp pair_cmp k q) true (list_any (eq_by_cmp pair_cmp q) old) ≡ true
    itself same =
        let found : eq_by_cmp pair_cmp k q ≡ true = rw (same.0, same.1) (test_itself k) in
        ap (λ (b : Bool). cond b true (list_any (eq_by_cmp pair_cmp q) old)) found

-- the pairs of some terminals
abbrev pub is_of : List ℕ → ℕ × ℕ → Bool
is_of terminals pair = list_any (λ t. nat_eq t pair.0) terminals

pub restricted : (pairs : List (ℕ × ℕ)) (terminals : List ℕ) (q : ℕ × ℕ) → Contains (filter (is_of terminals) pairs) q ↔ (Contains pairs q × Contains terminals q.0)
restricted pairs terminals q = (
  λ there. (Contains-from_filter (is_of terminals) pairs q there, (among terminals q.0).0 (passes_of (is_of terminals) pairs q there)),
  λ both. Contains-filter (is_of terminals) pairs q both.0 ((among terminals q.0).1 both.1),
)

-- the pairs of two sets
pub united : (xs ys zs : List (ℕ × ℕ)) (q : ℕ × ℕ) → list_any (eq_by_cmp pair_cmp q) zs ≡ (list_any (eq_by_cmp pair_cmp q) xs || list_any (eq_by_cmp pair_cmp q) ys)
    → Contains zs q ↔ (Contains xs q ⊎ Contains ys q)
united xs ys zs q e = (
  λ there. by_test (list_any (eq_by_cmp pair_cmp q) xs) refl (sym e ∙ (finds zs q).1 there),
  λ either. (finds zs q).0 (e ∙ ⊎_elim (λ first. either_true (list_any (eq_by_cmp pair_cmp q) xs) (list_any (eq_by_cmp pair_cmp q) ys) ((finds xs q).1 first))
      (λ second. any_later (list_any (eq_by_cmp pair_cmp q) xs) (list_any (eq_by_cmp pair_cmp q) ys) ((finds ys q).1 second)) either),
)
  where
    by_test : (b : Bool) → list_any (eq_by_cmp pair_cmp q) xs ≡ b → (b || list_any (eq_by_cmp pair_cmp q) ys) ≡ true → Contains xs q ⊎ Contains ys q
    by_test true is held = inl ((finds xs q).0 is)
    by_test false is held = inr ((finds ys q).0 held)

    either_true : (b c : Bool) → b ≡ true → (b || c) ≡ true
    either_true true c is = refl
    either_true false c is = cc
