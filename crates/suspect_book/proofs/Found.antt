-- What verdicts tell, as the marks and the lists of a book have it.
use Rattle.std.specs.Prelude.{◌≡◌, ℕ, zero, suc, ◌+◌, ◌<◌, ◌≤◌, Bool, true, false, not, ◌&&◌, cond, List, [], ◌∷◌, length, drop, slice_get, slice_index, slice_index_or, None, Some, Contains}
use Rattle.std.specs.List.{filter, find, list_any, range_with_len}
use Rattle.std.specs.List.Sorted.{IsStrictlyIncreasing}
use Rattle.std.specs.Ordering.{nat_cmp}
use Rattle.std.proofs.Common.{refl, sym, ap, ◌∙◌, subst, arith}
use Rattle.std.proofs.lemmas.Bool.{and_parts, and_from, not_from_false}
use Rattle.std.proofs.lemmas.Cmp.{nat_cmp_total}
use Rattle.std.proofs.lemmas.List.Kept.{IsStrictlySortedBy-filter}
use Rattle.std.proofs.lemmas.Map.Keys.{sorted_from_strictly_increasing}
use Rattle.list_laws.proofs.Members.{Contains-cons_same, Contains-cons_later, Contains-filter, passes_of}
use Rattle.list_laws.proofs.Places.{drop_found}
use Rattle.list_laws.proofs.SortedLists.{same_from_sorted}
use Rattle.network_model.specs.Table.{Entry}
use Rattle.network_model.specs.Cover.{rules_at, entry_at, rules_of}
use Rattle.fault_model.specs.Outcomes.{Outcome, AreOutcomes, failed, has}
use Rattle.fault_model.specs.Findings.{cleared, outside, is_only, is_alone, suspects, guilty, suspects_on}
use Rattle.fault_model.proofs.Explained.{suspect_has, suspect_parts, guilty_has, guilty_alone, range_has}
use Rattle.fault_model.proofs.Listed.{has-true, has-from, has-false, not_in, any_place, any_from, rules_of_has, failed_outcome, outside_on, only_has, only_same, only_from}
use Rattle.suspect_book.specs.Marked.{Tells, TellsLeft, is_lone}
use Rattle.suspect_book.proofs.VerdictLists.{same_test}

-- a suspect is on a failed entry and not cleared
pub suspect_test : (table : List Entry) (outcomes : List Outcome) (r : ℕ)
    → (has (rules_of table (failed outcomes)) r && not (has (cleared table outcomes) r)) ≡ has (suspects table outcomes) r
suspect_test table outcomes r =
    let failing = has (rules_of table (failed outcomes)) r in
    let free = not (has (cleared table outcomes) r) in
    same_test (failing && free) (has (suspects table outcomes) r)
    (λ h. let parts = and_parts failing free h in
    has-from (suspects table outcomes) r
    (suspect_has table outcomes r (has-true (rules_of table (failed outcomes)) r parts.0) (not_in (cleared table outcomes) r parts.1)))
    (λ h. let parts = suspect_parts table outcomes r (has-true (suspects table outcomes) r h) in
    and_from failing free (has-from (rules_of table (failed outcomes)) r parts.0) (not_from_false (has (cleared table outcomes) r) (has-false (cleared table outcomes) r parts.1)))

-- a guilty rule is alone and not cleared
pub guilty_test : (table : List Entry) (outcomes : List Outcome) (r : ℕ)
    → (is_alone table outcomes r && not (has (cleared table outcomes) r)) ≡ has (guilty table outcomes) r
guilty_test table outcomes r =
    let free = not (has (cleared table outcomes) r) in
    same_test (is_alone table outcomes r && free) (has (guilty table outcomes) r)
    (λ h. let place = any_place (λ (n : ℕ). is_only (outside table outcomes n) r) (failed outcomes) (and_parts (is_alone table outcomes r) free h).0 in
    has-from (guilty table outcomes) r (guilty_has table outcomes r (record {
      entry = place.0;
      fails = place.1.0;
      there = only_has (outside table outcomes place.0) r place.1.1;
      alone = λ q c. only_same (outside table outcomes place.0) r q place.1.1 c;
    })))
    (λ h. let a = guilty_alone table outcomes r (has-true (guilty table outcomes) r h) in
    let only : is_only (outside table outcomes a.entry) r ≡ true = only_from (outside table outcomes a.entry) r a.there a.alone in
    and_from (is_alone table outcomes r) free (any_from (λ (n : ℕ). is_only (outside table outcomes n) r) (failed outcomes) a.entry a.fails only)
    (not_from_false (has (cleared table outcomes) r) (has-false (cleared table outcomes) r (outside_on table outcomes a.entry r a.there).1)))

-- marks of two kinds together
pub left_tells : (numbers : List ℕ) (one two both : ℕ → Bool) (marks cleared : List Bool) → ((r : ℕ) → (one r && not (two r)) ≡ both r) → Tells numbers one marks → Tells numbers two cleared
    → TellsLeft numbers both marks cleared
left_tells numbers one two both marks cleared same told free p l =
    ap (λ (b : Bool). b && not (slice_index_or cleared p false)) (told p l) ∙ (ap (λ (b : Bool). one (slice_index numbers p) && not b) (free p l) ∙ same (slice_index numbers p))

-- numbers in rising order that a list in rising order has
pub listed_in_order : (numbers xs : List ℕ) → IsStrictlyIncreasing numbers → IsStrictlyIncreasing xs → ((r : ℕ) → Contains xs r → Contains numbers r) → filter (has xs) numbers ≡ xs
listed_in_order numbers xs rises xs_rise all =
    same_from_sorted nat_cmp_total (filter (has xs) numbers) xs (IsStrictlySortedBy-filter nat_cmp (has xs) numbers (sorted_from_strictly_increasing numbers rises))
    (sorted_from_strictly_increasing xs xs_rise)
    (λ r c. has-true xs r (passes_of (has xs) numbers r c))
    (λ r c. Contains-filter (has xs) numbers r (all r c) (has-from xs r c))

-- the rules of a failed entry that are not cleared are its suspects
filter_on : (p q : ℕ → Bool) (xs : List ℕ) → ((x : ℕ) → Contains xs x → p x ≡ q x) → filter p xs ≡ filter q xs
filter_on p q [] same = refl
filter_on p q (x ∷ xs) same =
    ap (λ (b : Bool). cond b (x ∷ filter p xs) (filter p xs)) (same x (Contains-cons_same x xs))
    ∙ ap (λ (l : List ℕ). cond (q x) (x ∷ l) l) (filter_on p q xs (λ y c. same y (Contains-cons_later x y xs c)))

pub outside_suspects : (table : List Entry) (outcomes : List Outcome) (n : ℕ) → Contains (failed outcomes) n → outside table outcomes n ≡ suspects_on table outcomes n
outside_suspects table outcomes n c =
    filter_on (λ r. not (has (cleared table outcomes) r)) (has (suspects table outcomes)) (rules_at (entry_at table n)) (λ r on.
    let failing : has (rules_of table (failed outcomes)) r ≡ true = has-from (rules_of table (failed outcomes)) r (rules_of_has table (failed outcomes) n r c on) in
    sym (ap (λ (b : Bool). b && not (has (cleared table outcomes) r)) failing) ∙ suspect_test table outcomes r)

-- a rule is alone where it is the lone suspect of some entry
pub alone_where_lone : (table : List Entry) (outcomes : List Outcome) → AreOutcomes table outcomes → (r : ℕ)
    → list_any (λ n. is_lone table outcomes n r) (range_with_len 1 (length table)) ≡ is_alone table outcomes r
alone_where_lone table outcomes are r =
    let all = range_with_len 1 (length table) in
    same_test (list_any (λ n. is_lone table outcomes n r) all) (is_alone table outcomes r)
    (λ h. let place = any_place (λ (n : ℕ). is_lone table outcomes n r) all h in
    let n : ℕ = place.0 in
    let parts = and_parts (has (failed outcomes) n) (is_only (suspects_on table outcomes n) r) place.1.1 in
    let fails = has-true (failed outcomes) n parts.0 in
    any_from (λ (m : ℕ). is_only (outside table outcomes m) r) (failed outcomes) n fails
    (subst (λ (l : List ℕ). is_only l r ≡ true) (sym (outside_suspects table outcomes n fails)) parts.1))
    (λ h. let place = any_place (λ (n : ℕ). is_only (outside table outcomes n) r) (failed outcomes) h in
    let n : ℕ = place.0 in
    let o = failed_outcome outcomes n place.1.0 in
    let within = are.inside o.0 o.1.0 in
    let there : Contains all n = subst (Contains all) o.1.1 (range_has (length table) o.0.entry within.0 within.1) in
    any_from (λ (m : ℕ). is_lone table outcomes m r) all n there
    (and_from (has (failed outcomes) n) (is_only (suspects_on table outcomes n) r) (has-from (failed outcomes) n place.1.0)
    (subst (λ (l : List ℕ). is_only l r ≡ true) (outside_suspects table outcomes n place.1.0) place.1.1)))

-- a search from a place on
pub find_here : (p : ℕ → Bool) (xs : List ℕ) (i x : ℕ) → slice_get xs i ≡ Some x → p x ≡ true → find p (drop i xs) ≡ Some x
find_here p xs i x at passes = ap (find p) (drop_found xs i x at) ∙ ap (λ (b : Bool). cond b (Some x) (find p (drop (i + 1) xs))) passes

pub find_later : (p : ℕ → Bool) (xs : List ℕ) (i x : ℕ) → slice_get xs i ≡ Some x → p x ≡ false → find p (drop i xs) ≡ find p (drop (i + 1) xs)
find_later p xs i x at fails = ap (find p) (drop_found xs i x at) ∙ ap (λ (b : Bool). cond b (Some x) (find p (drop (i + 1) xs))) fails

pub find_end : (p : ℕ → Bool) (xs : List ℕ) (i : ℕ) → length xs ≤ i → find p (drop i xs) ≡ None
find_end p [] i l = ap (find p) (drop_nothing i)
  where
    drop_nothing : (k : ℕ) → drop {A = ℕ} k [] ≡ []
    drop_nothing zero = refl
    drop_nothing (suc k) = refl
find_end p (x ∷ xs) zero l = absurd (omega arith)
find_end p (x ∷ xs) (suc i) l = find_end p xs i (omega arith)

-- the number at a place of the numbers from 1
pub range_at : (count i : ℕ) → i < count → slice_get (range_with_len 1 count) i ≡ Some (i + 1)
range_at count i l = from_at 1 count i l
  where
    from_at : (m count i : ℕ) → i < count → slice_get (range_with_len m count) i ≡ Some (i + m)
    from_at m zero i l = absurd (omega arith)
    from_at m (suc count) zero l = ap Some (omega arith)
    from_at m (suc count) (suc i) l = from_at (m + 1) count i (omega arith) ∙ ap Some (omega arith)
