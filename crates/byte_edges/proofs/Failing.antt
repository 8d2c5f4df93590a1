-- How the number of listed calls goes on with one more call.
use Rattle.std.proofs.Common.{◌≡◌, ℕ, zero, suc, ◌+◌, ◌<◌, ◌≤◌, cond, ◌&&◌, List, [], ◌∷◌, length, get_or, nat_lt, nat_le, Contains, sum_by, refl, arith, IsPermutation, ap, ◌∙◌}
use Rattle.std.proofs.lemmas.List.Sorted.{length_permutation}
use Rattle.std.proofs.lemmas.Bool.Decides.{nat_tests}
use Rattle.std.proofs.lemmas.List.Sums.{sum_by-cons, sum_by-le-sum_by}

abbrev term : ℕ → ℕ → ℕ
term calls n = cond (nat_lt 0 n && nat_le n calls) 1 0

term_at_start : (n : ℕ) → term 0 n ≡ 0
term_at_start n = grind (arith, nat_tests)

term_grows : (calls n : ℕ) → term calls n ≤ term (calls + 1) n
term_grows calls n = grind (arith, nat_tests)

term_at_next : (calls n : ℕ) → n ≡ calls + 1 → term calls n + 1 ≤ term (calls + 1) n
term_at_next calls n e = grind (arith, nat_tests)

term_elsewhere : (calls n : ℕ) → (n ≡ calls + 1 → ⊥) → term (calls + 1) n ≡ term calls n
term_elsewhere calls n e = grind (arith, nat_tests)

pub none_failed : (fails : List ℕ) → sum_by (term 0) fails ≡ 0
none_failed [] = refl
none_failed (n ∷ fails) = omega (arith, sum_by-cons (term 0) n fails, term_at_start n, none_failed fails)

pub failed_grows : (calls : ℕ) (fails : List ℕ) → sum_by (term calls) fails ≤ sum_by (term (calls + 1)) fails
failed_grows calls fails = sum_by-le-sum_by (term calls) (term (calls + 1)) fails (term_grows calls)

failed_at : (calls : ℕ) (fails : List ℕ) (k : ℕ) → k < length fails → get_or fails k (calls + 1) ≡ calls + 1 → sum_by (term calls) fails + 1 ≤ sum_by (term (calls + 1)) fails
failed_at calls [] k h e = absurd (omega arith)
failed_at calls (n ∷ fails) zero h e =
    omega (arith, sum_by-cons (term calls) n fails, sum_by-cons (term (calls + 1)) n fails, term_at_next calls n e, failed_grows calls fails)
failed_at calls (n ∷ fails) (suc k) h e =
    omega (arith, sum_by-cons (term calls) n fails, sum_by-cons (term (calls + 1)) n fails, term_grows calls n, failed_at calls fails k (omega arith) e)

-- where the next call is listed, one more has failed after it
pub failed_once_more : (calls : ℕ) (fails : List ℕ) → Contains fails (calls + 1) → sum_by (term calls) fails + 1 ≤ sum_by (term (calls + 1)) fails
failed_once_more calls fails (k, h, e) = failed_at calls fails k h e

-- where it is not, none has
pub failed_no_more : (calls : ℕ) (fails : List ℕ) → (Contains fails (calls + 1) → ⊥) → sum_by (term (calls + 1)) fails ≡ sum_by (term calls) fails
failed_no_more calls [] none = refl
failed_no_more calls (n ∷ fails) none =
    omega (arith, sum_by-cons (term calls) n fails, sum_by-cons (term (calls + 1)) n fails, term_elsewhere calls n (λ e. none (0, omega arith, e)), failed_no_more calls fails (λ (k, h, e). none (suc k, omega arith, e)))

empty_of : (fails : List ℕ) → length fails ≡ 0 → fails ≡ []
empty_of [] none = refl
empty_of (n ∷ fails) none = absurd (omega arith)

-- a list without numbers has none in any order
pub none_listed : (fails sorted : List ℕ) → IsPermutation fails sorted → fails ≡ [] → sorted ≡ []
none_listed fails sorted moved none = empty_of sorted (length_permutation fails sorted moved ∙ ap (λ (xs : List ℕ). length xs) none)
