-- Counts over lists of numbers.
use Rattle.std.specs.Prelude.{◌≡◌, ◌==◌, ℕ, zero, suc, ◌+◌, ◌<◌, ◌≤◌, Bool, true, false, not, ◌&&◌, ◌||◌, cond, List, [], ◌∷◌, length, take, slice_index, slice_index_or, slice_set, nat_eq}
use Rattle.std.specs.List.{list_any}
use Rattle.std.specs.List.Sorted.{IsStrictlyIncreasing}
use Rattle.std.proofs.Common.{refl, sym, ap, ◌∙◌, subst, ⊎_elim, arith}
use Rattle.std.proofs.lemmas.Bool.{cases_eq, eq-eqb, ne_eqb}
use Rattle.std.proofs.lemmas.List.Kept.{AllPairs-from_increasing}
use Rattle.std.proofs.lemmas.List.Sums.{sum_by-cons}
use Rattle.suspect_book.specs.Tallied.{times}
use Rattle.suspect_book.specs.Sheets.{tally}

times_step : (x : ℕ) (xs : List ℕ) (n : ℕ) → times (x ∷ xs) n ≡ cond (x == n) 1 0 + times xs n
times_step x xs n = sum_by-cons (λ m. cond (m == n) 1 0) x xs

-- a number is counted once more where it stands
pub times_next : (xs : List ℕ) (i d : ℕ) → i < length xs → times (take i xs) (slice_index_or xs i d) + 1 ≤ times xs (slice_index_or xs i d)
times_next [] i d l = omega arith
times_next (x ∷ xs) zero d l =
    let e : times (x ∷ xs) x ≡ 1 + times xs x = times_step x xs x ∙ ap (λ (b : Bool). cond b 1 0 + times xs x) (eq-eqb x x refl) in
    omega arith
times_next (x ∷ xs) (suc i) d l =
    let n : ℕ = slice_index_or xs i d in
    let one = times_step x xs n in
    let two = times_step x (take i xs) n in
    let rest = times_next xs i d (omega arith) in
    omega arith

-- the tallies once a rule failed or passed
pub tally_failed : (fs ps : List Bool) (ls : List (List ℕ)) (p k : ℕ) → p < length fs → p < length ps → p < length ls → slice_index_or fs p false ≡ false → slice_index_or ps p false ≡ false
    → tally (slice_set fs p true) ps ls k ≡ tally fs ps ls k + times (slice_index_or ls p []) k
tally_failed [] ps ls p k a b c f g = absurd (omega arith)
tally_failed (x ∷ fs) [] ls p k a b c f g = absurd (omega arith)
tally_failed (x ∷ fs) (y ∷ ps) [] p k a b c f g = absurd (omega arith)
tally_failed (true ∷ fs) (y ∷ ps) (l ∷ ls) zero k a b c f g = cc
tally_failed (false ∷ fs) (true ∷ ps) (l ∷ ls) zero k a b c f g = cc
tally_failed (false ∷ fs) (false ∷ ps) (l ∷ ls) zero k a b c f g = omega arith
tally_failed (x ∷ fs) (y ∷ ps) (l ∷ ls) (suc p) k a b c f g =
    let rest = tally_failed fs ps ls p k (omega arith) (omega arith) (omega arith) f g in
    omega arith

pub tally_failed_too : (fs ps : List Bool) (ls : List (List ℕ)) (p k : ℕ) → slice_index_or ps p false ≡ true → tally (slice_set fs p true) ps ls k ≡ tally fs ps ls k
tally_failed_too [] ps ls p k g = refl
tally_failed_too (x ∷ fs) [] ls zero k g = refl
tally_failed_too (x ∷ fs) [] ls (suc p) k g = refl
tally_failed_too (x ∷ fs) (y ∷ ps) [] zero k g = refl
tally_failed_too (x ∷ fs) (y ∷ ps) [] (suc p) k g = refl
tally_failed_too (x ∷ fs) (false ∷ ps) (l ∷ ls) zero k g = cc
tally_failed_too (true ∷ fs) (true ∷ ps) (l ∷ ls) zero k g = refl
tally_failed_too (false ∷ fs) (true ∷ ps) (l ∷ ls) zero k g = refl
tally_failed_too (x ∷ fs) (y ∷ ps) (l ∷ ls) (suc p) k g =
    let rest = tally_failed_too fs ps ls p k g in
    omega arith

pub tally_passed : (fs ps : List Bool) (ls : List (List ℕ)) (p k : ℕ) → p < length fs → p < length ps → p < length ls → slice_index_or fs p false ≡ true → slice_index_or ps p false ≡ false
    → tally fs (slice_set ps p true) ls k + times (slice_index_or ls p []) k ≡ tally fs ps ls k
tally_passed [] ps ls p k a b c f g = absurd (omega arith)
tally_passed (x ∷ fs) [] ls p k a b c f g = absurd (omega arith)
tally_passed (x ∷ fs) (y ∷ ps) [] p k a b c f g = absurd (omega arith)
tally_passed (false ∷ fs) (y ∷ ps) (l ∷ ls) zero k a b c f g = cc
tally_passed (true ∷ fs) (true ∷ ps) (l ∷ ls) zero k a b c f g = cc
tally_passed (true ∷ fs) (false ∷ ps) (l ∷ ls) zero k a b c f g = omega arith
tally_passed (x ∷ fs) (y ∷ ps) (l ∷ ls) (suc p) k a b c f g =
    let rest = tally_passed fs ps ls p k (omega arith) (omega arith) (omega arith) f g in
    omega arith

pub tally_passed_only : (fs ps : List Bool) (ls : List (List ℕ)) (p k : ℕ) → slice_index_or fs p false ≡ false → tally fs (slice_set ps p true) ls k ≡ tally fs ps ls k
tally_passed_only [] ps ls p k f = refl
tally_passed_only (x ∷ fs) [] ls p k f = refl
tally_passed_only (x ∷ fs) (y ∷ ps) [] zero k f = refl
tally_passed_only (x ∷ fs) (y ∷ ps) [] (suc p) k f = refl
tally_passed_only (true ∷ fs) (y ∷ ps) (l ∷ ls) zero k f = cc
tally_passed_only (false ∷ fs) (y ∷ ps) (l ∷ ls) zero k f = refl
tally_passed_only (x ∷ fs) (y ∷ ps) (l ∷ ls) (suc p) k f =
    let rest = tally_passed_only fs ps ls p k f in
    omega arith

-- a mark that is there stays
pub set_again : (marks : List Bool) (p : ℕ) → slice_index_or marks p false ≡ true → slice_set marks p true ≡ marks
set_again [] p e = refl
set_again (x ∷ marks) zero e = ap (λ (b : Bool). b ∷ marks) (sym e)
set_again (x ∷ marks) (suc p) e = ap (λ (l : List Bool). x ∷ l) (set_again marks p e)

-- numbers in rising order stand once each
beyond : (x : ℕ) (xs : List ℕ) → ((j : ℕ) → j < length xs → x < slice_index xs j) → (k : ℕ) → k ≤ x → list_any (nat_eq k) xs ≡ false
beyond x [] above k l = refl
beyond x (y ∷ ys) above k l =
    let more : x < y = above 0 (omega arith) in
    ap (λ (b : Bool). b || list_any (nat_eq k) ys) (ne_eqb k y (λ e. absurd (omega arith)))
    ∙ beyond x ys (λ j m. above (suc j) (omega arith)) k l

pub times_has : (xs : List ℕ) → ((i j : ℕ) → i < j → j < length xs → slice_index xs i < slice_index xs j) → (k : ℕ) → times xs k ≡ cond (list_any (nat_eq k) xs) 1 0
times_has [] rises k = refl
times_has (x ∷ xs) rises k =
    let rest = times_has xs (λ i j l m. rises (suc i) (suc j) (omega arith) (omega arith)) k in
    ⊎_elim (λ (same : k ≡ x).
    let none : list_any (nat_eq k) xs ≡ false = beyond x xs (λ j m. rises 0 (suc j) (omega arith) (omega arith)) k (omega arith) in
    times_step x xs k ∙ (ap (λ (b : Bool). cond b 1 0 + times xs k) (eq-eqb x k (sym same)) ∙ (ap (λ (n : ℕ). 1 + n) (rest ∙ ap (λ (b : Bool). cond b 1 0) none)
    ∙ sym (ap (λ (b : Bool). cond (b || list_any (nat_eq k) xs) 1 0) (eq-eqb k x same)))))
    (λ (other : k ≡ x → ⊥).
    times_step x xs k ∙ (ap (λ (b : Bool). cond b 1 0 + times xs k) (ne_eqb x k (λ e. other (sym e))) ∙ (omega (arith, rest)
    ∙ sym (ap (λ (b : Bool). cond (b || list_any (nat_eq k) xs) 1 0) (ne_eqb k x other)))))
    (cases_eq k x)

pub times_once : (xs : List ℕ) → IsStrictlyIncreasing xs → (k : ℕ) → times xs k ≤ 1
times_once xs rises k = subst (λ (n : ℕ). n ≤ 1) (sym (times_has xs (λ i j l m. AllPairs-from_increasing xs rises i j 0 l m) k)) (at_most (list_any (nat_eq k) xs))
  where
    at_most : (b : Bool) → cond b 1 0 ≤ 1
    at_most true = omega arith
    at_most false = omega arith

pub tally_few : (fs ps : List Bool) (ls : List (List ℕ)) (k : ℕ) → ((p : ℕ) → p < length ls → times (slice_index_or ls p []) k ≤ 1) → tally fs ps ls k ≤ length ls
tally_few [] ps ls k once = omega arith
tally_few (x ∷ fs) [] ls k once = omega arith
tally_few (x ∷ fs) (y ∷ ps) [] k once = omega arith
tally_few (x ∷ fs) (y ∷ ps) (l ∷ ls) k once =
    let rest = tally_few fs ps ls k (λ p m. once (suc p) (omega arith)) in
    let one = at_most (x && not y) (times l k) (once 0 (omega arith)) in
    omega arith
  where
    at_most : (b : Bool) (n : ℕ) → n ≤ 1 → cond b n 0 ≤ 1
    at_most true n h = h
    at_most false n h = omega arith
