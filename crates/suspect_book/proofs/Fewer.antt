-- How many different numbers a list has that ends in one more.
use Rattle.std.specs.Prelude.{◌≡◌, ℕ, true, List, [], ◌∷◌, ◌++◌, nat_eq, Contains}
use Rattle.std.proofs.Common.{sym, ap, ◌∙◌, subst, ⊎_elim}
use Rattle.std.proofs.lemmas.Bool.{eqb-true, eq-eqb}
use Rattle.std.proofs.lemmas.List.Elements.{Contains-append_left, Contains-append_right, Contains-append_cases}
use Rattle.list_laws.proofs.Members.{Contains-cons_same, Contains-one}
use Rattle.fault_model.specs.Findings.{is_only}
use Rattle.fault_model.proofs.Listed.{only_has, only_same, only_from}
use Rattle.suspect_book.proofs.VerdictLists.{same_test}
use Rattle.suspect_book.specs.Fewness.{IsFew}
use Rattle.suspect_book.specs.declared.few.Few.TheVariants.{More}

last_has : (xs : List ℕ) (n : ℕ) → Contains (xs ++ n ∷ []) n
last_has xs n = Contains-append_right xs (n ∷ []) n (Contains-cons_same n [])

pub first_one : (xs : List ℕ) (n : ℕ) → xs ≡ [] → is_only (xs ++ n ∷ []) n ≡ true
first_one xs n none =
    let one : xs ++ n ∷ [] ≡ n ∷ [] = ap (λ l. l ++ n ∷ []) none in
    subst (λ (l : List ℕ). is_only l n ≡ true) (sym one) (only_from (n ∷ []) n (Contains-cons_same n []) (λ m c. sym (Contains-one n m c)))

pub same_one : (xs : List ℕ) (n m : ℕ) → n ≡ m → is_only xs n ≡ true → is_only (xs ++ m ∷ []) n ≡ true
same_one xs n m same only =
    only_from (xs ++ m ∷ []) n (Contains-append_left xs (m ∷ []) n (only_has xs n only))
    (λ k c. ⊎_elim (λ old. only_same xs n k only old) (λ new. same ∙ sym (Contains-one m k new)) (Contains-append_cases xs (m ∷ []) k c))

pub now_more : (xs : List ℕ) (n m : ℕ) → (n ≡ m → ⊥) → is_only xs n ≡ true → IsFew (xs ++ m ∷ []) More
now_more xs n m other only = (n, m, Contains-append_left xs (m ∷ []) n (only_has xs n only), last_has xs m, other)

pub still_more : (xs : List ℕ) (n : ℕ) → IsFew xs More → IsFew (xs ++ n ∷ []) More
still_more xs n (a, b, has_a, has_b, apart) = (a, b, Contains-append_left xs (n ∷ []) a has_a, Contains-append_left xs (n ∷ []) b has_b, apart)

-- only the only one is
pub only_tests : (xs : List ℕ) (n r : ℕ) → is_only xs n ≡ true → nat_eq r n ≡ is_only xs r
only_tests xs n r only =
    same_test (nat_eq r n) (is_only xs r) (λ h. subst (λ k. is_only xs k ≡ true) (sym (eqb-true r n h)) only)
    (λ h. eq-eqb r n (only_same xs r n h (only_has xs n only)))
