-- What outcomes tell is the same in any order.
use Rattle.std.specs.Prelude.{◌≡◌, ◌↔◌, ℕ, Bool, true, false, not, ◌&&◌, cond, List, [], ◌∷◌, length, Option, Some, None, Contains}
use Rattle.std.specs.List.{filter, find, list_any, range_with_len}
use Rattle.std.specs.List.Sorted.{IsStrictlyIncreasing}
use Rattle.std.proofs.Common.{refl, sym, ap, ◌∙◌, subst}
use Rattle.std.proofs.lemmas.Cmp.{nat_cmp_total}
use Rattle.std.proofs.lemmas.Map.Keys.{sorted_from_strictly_increasing}
use Rattle.list_laws.proofs.Members.{Contains-map, Contains-from_map}
use Rattle.list_laws.proofs.SortedLists.{same_from_sorted}
use Rattle.network_model.specs.Table.{Entry}
use Rattle.network_model.specs.Cover.{rules_at, entry_at, rules_of}
use Rattle.network_model.specs.Plan.{Plan, reserved}
use Rattle.fault_model.specs.Outcomes.{Outcome, entries_of, passed, failed, has}
use Rattle.fault_model.specs.Findings.{cleared, outside, is_only, suspects, is_alone, guilty, is_none, is_odd, odd, suspects_on, has_one, has_verdict, tells, telling, findings}
use Rattle.fault_model.proofs.Explained.{findings_rise}
use Rattle.fault_model.proofs.Listed.{has-true, has-from, any_place, any_from, rules_of_has, rules_of_place, passed_outcome, failed_outcome, passed_has, failed_has}
use Rattle.suspect_book.proofs.Found.{suspect_test, guilty_test}
use Rattle.suspect_book.proofs.VerdictLists.{same_test}

-- the same outcomes
abbrev pub AreSame : List Outcome → List Outcome → Type 0
AreSame one other = (o : Outcome) → Contains one o ↔ Contains other o

abbrev AreAmong : List Outcome → List Outcome → Type 0
AreAmong one other = (o : Outcome) → Contains one o → Contains other o

-- tests that agree keep and find the same
filter_same : (p q : ℕ → Bool) (xs : List ℕ) → ((x : ℕ) → p x ≡ q x) → filter p xs ≡ filter q xs
filter_same p q [] same = refl
filter_same p q (x ∷ xs) same =
    ap (λ (b : Bool). cond b (x ∷ filter p xs) (filter p xs)) (same x) ∙ ap (λ (l : List ℕ). cond (q x) (x ∷ l) l) (filter_same p q xs same)

find_same : (p q : ℕ → Bool) (xs : List ℕ) → ((x : ℕ) → p x ≡ q x) → find p xs ≡ find q xs
find_same p q [] same = refl
find_same p q (x ∷ xs) same =
    ap (λ (b : Bool). cond b (Some x) (find p xs)) (same x) ∙ ap (λ (o : Option ℕ). cond (q x) (Some x) o) (find_same p q xs same)

-- lists in rising order of the same numbers
has_same : (xs ys : List ℕ) → ((n : ℕ) → Contains xs n → Contains ys n) → ((n : ℕ) → Contains ys n → Contains xs n) → (n : ℕ) → has xs n ≡ has ys n
has_same xs ys there back n =
    same_test (has xs n) (has ys n) (λ h. has-from ys n (there n (has-true xs n h))) (λ h. has-from xs n (back n (has-true ys n h)))

same_list : (xs ys : List ℕ) → IsStrictlyIncreasing xs → IsStrictlyIncreasing ys → ((n : ℕ) → has xs n ≡ has ys n) → xs ≡ ys
same_list xs ys xs_rise ys_rise same =
    same_from_sorted nat_cmp_total xs ys (sorted_from_strictly_increasing xs xs_rise) (sorted_from_strictly_increasing ys ys_rise)
    (λ n c. has-true ys n (sym (same n) ∙ has-from xs n c))
    (λ n c. has-true xs n (same n ∙ has-from ys n c))

module _ (table : List Entry) (one other : List Outcome) (among : AreAmong one other) where
  passed_among : (n : ℕ) → Contains (passed one) n → Contains (passed other) n
  passed_among n c =
      let o = passed_outcome one n c in
      subst (λ (m : ℕ). Contains (passed other) m) o.1.1 (passed_has other o.0 (among o.0 o.1.0) o.1.2)

  failed_among : (n : ℕ) → Contains (failed one) n → Contains (failed other) n
  failed_among n c =
      let o = failed_outcome one n c in
      subst (λ (m : ℕ). Contains (failed other) m) o.1.1 (failed_has other o.0 (among o.0 o.1.0) o.1.2)

  entries_among : (n : ℕ) → Contains (entries_of one) n → Contains (entries_of other) n
  entries_among n c =
      let o = Contains-from_map (λ (x : Outcome). x.entry) one n c in
      subst (λ (m : ℕ). Contains (entries_of other) m) o.1.1 (Contains-map (λ (x : Outcome). x.entry) other o.0 (among o.0 o.1.0))

  rules_among : (ns ms : List ℕ) → ((n : ℕ) → Contains ns n → Contains ms n) → (r : ℕ) → Contains (rules_of table ns) r → Contains (rules_of table ms) r
  rules_among ns ms inside r c =
      let place = rules_of_place table ns r c in
      rules_of_has table ms place.0 r (inside place.0 place.1.0) place.1.1

  cleared_among : (r : ℕ) → Contains (cleared table one) r → Contains (cleared table other) r
  cleared_among = rules_among (passed one) (passed other) passed_among

  failing_among : (r : ℕ) → Contains (rules_of table (failed one)) r → Contains (rules_of table (failed other)) r
  failing_among = rules_among (failed one) (failed other) failed_among

  alone_among : ((n : ℕ) → outside table one n ≡ outside table other n) → (r : ℕ) → is_alone table one r ≡ true → is_alone table other r ≡ true
  alone_among same r h =
      let place = any_place (λ (n : ℕ). is_only (outside table one n) r) (failed one) h in
      let n : ℕ = place.0 in
      any_from (λ (m : ℕ). is_only (outside table other m) r) (failed other) n (failed_among n place.1.0)
      (subst (λ (l : List ℕ). is_only l r ≡ true) (same n) place.1.1)

module _ (plan : Plan) (one other : List Outcome) (same : AreSame one other) where
  there : AreAmong one other
  there o c = (same o).0 c

  back : AreAmong other one
  back o c = (same o).1 c

  cleared_same : (r : ℕ) → has (cleared plan.table one) r ≡ has (cleared plan.table other) r
  cleared_same = has_same (cleared plan.table one) (cleared plan.table other) (cleared_among plan.table one other there) (cleared_among plan.table other one back)

  failing_same : (r : ℕ) → has (rules_of plan.table (failed one)) r ≡ has (rules_of plan.table (failed other)) r
  failing_same =
      has_same (rules_of plan.table (failed one)) (rules_of plan.table (failed other)) (failing_among plan.table one other there) (failing_among plan.table other one back)

  suspects_same : suspects plan.table one ≡ suspects plan.table other
  suspects_same =
      same_list (suspects plan.table one) (suspects plan.table other) (findings_rise plan.table one).0 (findings_rise plan.table other).0 (λ r.
      sym (suspect_test plan.table one r)
      ∙ (ap (λ (b : Bool). b && not (has (cleared plan.table one) r)) (failing_same r)
      ∙ (ap (λ (b : Bool). has (rules_of plan.table (failed other)) r && not b) (cleared_same r) ∙ suspect_test plan.table other r)))

  outside_same : (n : ℕ) → outside plan.table one n ≡ outside plan.table other n
  outside_same n =
      filter_same (λ r. not (has (cleared plan.table one) r)) (λ r. not (has (cleared plan.table other) r)) (rules_at (entry_at plan.table n)) (λ r. ap not (cleared_same r))

  alone_same : (r : ℕ) → is_alone plan.table one r ≡ is_alone plan.table other r
  alone_same r =
      same_test (is_alone plan.table one r) (is_alone plan.table other r) (alone_among plan.table one other there outside_same r)
      (alone_among plan.table other one back (λ n. sym (outside_same n)) r)

  guilty_same : guilty plan.table one ≡ guilty plan.table other
  guilty_same =
      same_list (guilty plan.table one) (guilty plan.table other) (findings_rise plan.table one).1 (findings_rise plan.table other).1 (λ r.
      sym (guilty_test plan.table one r)
      ∙ (ap (λ (b : Bool). b && not (has (cleared plan.table one) r)) (alone_same r)
      ∙ (ap (λ (b : Bool). is_alone plan.table other r && not b) (cleared_same r) ∙ guilty_test plan.table other r)))

  failed_same : (n : ℕ) → has (failed one) n ≡ has (failed other) n
  failed_same = has_same (failed one) (failed other) (failed_among plan.table one other there) (failed_among plan.table other one back)

  odd_same : odd plan.table one ≡ odd plan.table other
  odd_same =
      find_same (is_odd plan.table one) (is_odd plan.table other) (range_with_len 1 (length plan.table)) (λ n.
      ap (λ (b : Bool). b && is_none (outside plan.table one n)) (failed_same n) ∙ ap (λ (l : List ℕ). has (failed other) n && is_none l) (outside_same n))

  verdict_same : (n : ℕ) → has_verdict one n ≡ has_verdict other n
  verdict_same = has_same (entries_of one) (entries_of other) (entries_among plan.table one other there) (entries_among plan.table other one back)

  pub telling_same : telling plan one ≡ telling plan other
  telling_same =
      find_same (tells plan.table one) (tells plan.table other) (reserved plan) (λ n.
      ap (λ (b : Bool). not b && has_one (suspects_on plan.table one n)) (verdict_same n)
      ∙ ap (λ (s : List ℕ). not (has_verdict other n) && has_one (filter (has s) (rules_at (entry_at plan.table n)))) suspects_same)

  pub findings_same : findings plan one ≡ findings plan other
  findings_same = λ i. record { suspects = suspects_same i; guilty = guilty_same i; odd = odd_same i; next = telling_same i }
