-- The first telling entry, by tallies.
use Rattle.std.specs.Prelude.{◌≡◌, ◌==◌, ℕ, zero, suc, ◌+◌, ◌<◌, ◌≤◌, Bool, true, false, not, ◌&&◌, cond, List, [], ◌∷◌, length, drop, slice_index, slice_index_or, Option, None, Some, option_map, Contains}
use Rattle.std.specs.List.{filter, find, range_with_len}
use Rattle.std.specs.List.Sorted.{IsStrictlyIncreasing}
use Rattle.std.proofs.Common.{refl, sym, ap, ◌∙◌, subst, arith}
use Rattle.std.proofs.lemmas.Bool.{eq-eqb, eqb-true, and_parts, and_from}
use Rattle.std.proofs.lemmas.List.FromFn.{length-range_with_len}
use Rattle.std.proofs.lemmas.List.Kept.{AllPairs-from_increasing, IsStrictlyIncreasing-filter}
use Rattle.list_laws.proofs.Members.{Contains-cons_same, Contains-cons_later, Contains-nil, Contains-one, Contains-filter, Contains-from_filter, passes_of}
use Rattle.fault_model.specs.Outcomes.{has}
use Rattle.fault_model.specs.Findings.{is_only, has_one}
use Rattle.fault_model.proofs.Listed.{has-true, has-from, any_place, any_from, only_same, only_from}
use Rattle.suspect_book.specs.Flagged.{IsFirst}
use Rattle.suspect_book.specs.Sheets.{tally}
use Rattle.suspect_book.specs.Tallied.{times}
use Rattle.suspect_book.proofs.Found.{find_here, find_later, find_end, range_at}
use Rattle.suspect_book.proofs.VerdictLists.{same_test}

-- the first number of a range that passes
skipped : (u : ℕ → Bool) (n i : ℕ) → i ≤ n → ((k : ℕ) → k < i → u (suc k) ≡ false) → find u (range_with_len 1 n) ≡ find u (drop i (range_with_len 1 n))
skipped u n zero l fails = refl
skipped u n (suc i) l fails =
    let one : i + 1 ≡ suc i = omega arith in
    skipped u n i (omega arith) (λ k m. fails k (omega arith))
    ∙ (find_later u (range_with_len 1 n) i (i + 1) (range_at n i (omega arith)) (ap u one ∙ fails i (omega arith)) ∙ ap (λ (j : ℕ). find u (drop j (range_with_len 1 n))) one)

pub first_found : (u : ℕ → Bool) (n : ℕ) (r : Option ℕ) → IsFirst (λ k. u (suc k)) n r → find u (range_with_len 1 n) ≡ option_map (λ k. k + 1) r
first_found u n None fails = skipped u n n (omega arith) fails ∙ find_end u (range_with_len 1 n) n (omega (arith, length-range_with_len 1 n))
first_found u n (Some i) (inside, passes, fails) =
    let one : i + 1 ≡ suc i = omega arith in
    skipped u n i (omega arith) fails ∙ find_here u (range_with_len 1 n) i (i + 1) (range_at n i inside) (ap u one ∙ passes)

pub find_kept : (p q : ℕ → Bool) (xs : List ℕ) → find p (filter q xs) ≡ find (λ n. q n && p n) xs
find_kept p q [] = refl
find_kept p q (x ∷ xs) = by_test (q x) (find_kept p q xs)
  where
    by_test : (b : Bool) → find p (filter q xs) ≡ find (λ n. q n && p n) xs
        → find p (cond b (x ∷ filter q xs) (filter q xs)) ≡ cond (b && p x) (Some x) (find (λ n. q n && p n) xs)
    by_test true rest = ap (λ (o : Option ℕ). cond (p x) (Some x) o) rest
    by_test false rest = rest

-- a tally counts the rules that pass a test
pub tally_counts : (numbers : List ℕ) (fs ps : List Bool) (ls : List (List ℕ)) (t : ℕ → Bool) (k : ℕ) → length fs ≡ length numbers → length ps ≡ length numbers → length ls ≡ length numbers
    → ((p : ℕ) → p < length numbers → cond (slice_index_or fs p false && not (slice_index_or ps p false)) (times (slice_index_or ls p []) k) 0 ≡ cond (t (slice_index numbers p)) 1 0)
    → tally fs ps ls k ≡ length (filter t numbers)
tally_counts [] [] ps ls t k a b c each = refl
tally_counts [] (f ∷ fs) ps ls t k a b c each = absurd (omega arith)
tally_counts (n ∷ ns) [] ps ls t k a b c each = absurd (omega arith)
tally_counts (n ∷ ns) (f ∷ fs) [] ls t k a b c each = absurd (omega arith)
tally_counts (n ∷ ns) (f ∷ fs) (p ∷ ps) [] t k a b c each = absurd (omega arith)
tally_counts (n ∷ ns) (f ∷ fs) (p ∷ ps) (l ∷ ls) t k a b c each =
    let rest = tally_counts ns fs ps ls t k (omega arith) (omega arith) (omega arith) (λ q m. each (suc q) (omega arith)) in
    let here : cond (f && not p) (times l k) 0 ≡ cond (t n) 1 0 = each 0 (omega arith) in
    omega (arith, here, rest) ∙ by_test (t n)
  where
    by_test : (b : Bool) → cond b 1 0 + length (filter t ns) ≡ length (cond b (n ∷ filter t ns) (filter t ns))
    by_test true = omega arith
    by_test false = omega arith

-- one different number passes
lone_length : (xs : List ℕ) (r : ℕ) → IsStrictlyIncreasing xs → Contains xs r → ((q : ℕ) → Contains xs q → r ≡ q) → length xs ≡ 1
lone_length [] r rises c each = absurd (Contains-nil r c)
lone_length (x ∷ []) r rises c each = refl
lone_length (x ∷ y ∷ xs) r rises c each =
    let first : r ≡ x = each x (Contains-cons_same x (y ∷ xs)) in
    let second : r ≡ y = each y (Contains-cons_later x y (y ∷ xs) (Contains-cons_same y xs)) in
    let less : x < y = AllPairs-from_increasing (x ∷ y ∷ xs) rises 0 1 0 (omega arith) (omega arith) in
    absurd (omega arith)

only_length : (xs : List ℕ) → length xs ≡ 1 → (r : ℕ) × (xs ≡ r ∷ [])
only_length [] e = absurd (omega arith)
only_length (x ∷ []) e = (x, refl)
only_length (x ∷ y ∷ xs) e = absurd (omega arith)

pub has_one_counts : (a : ℕ → Bool) (rules numbers : List ℕ) → IsStrictlyIncreasing numbers → ((r : ℕ) → Contains rules r → Contains numbers r)
    → (length (filter (λ r. a r && has rules r) numbers) == 1) ≡ has_one (filter a rules)
has_one_counts a rules numbers rises among =
    let t : ℕ → Bool = λ r. a r && has rules r in
    let xs : List ℕ = filter t numbers in
    let ys : List ℕ = filter a rules in
    let xs_rise : IsStrictlyIncreasing xs = IsStrictlyIncreasing-filter t numbers rises in
    let there : (r : ℕ) → Contains xs r → Contains ys r = λ r c.
    let parts = and_parts (a r) (has rules r) (passes_of t numbers r c) in
    Contains-filter a rules r (has-true rules r parts.1) parts.0 in
    let back : (r : ℕ) → Contains ys r → Contains xs r = λ r c.
    let on : Contains rules r = Contains-from_filter a rules r c in
    Contains-filter t numbers r (among r on) (and_from (a r) (has rules r) (passes_of a rules r c) (has-from rules r on)) in
    same_test (length xs == 1) (has_one ys)
    (λ h. let one = only_length xs (eqb-true (length xs) 1 h) in
    let in_it : Contains xs one.0 = subst (λ (l : List ℕ). Contains l one.0) (sym one.1) (Contains-cons_same one.0 []) in
    any_from (is_only ys) ys one.0 (there one.0 in_it) (only_from ys one.0 (there one.0 in_it)
    (λ m c. sym (Contains-one one.0 m (subst (λ (l : List ℕ). Contains l m) one.1 (back m c))))))
    (λ h. let place = any_place (is_only ys) ys h in
    eq-eqb (length xs) 1 (lone_length xs place.0 xs_rise (back place.0 place.1.0) (λ q c. only_same ys place.0 q place.1.1 (there q c))))
