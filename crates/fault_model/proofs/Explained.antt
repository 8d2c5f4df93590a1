-- What outcomes that can be explained tell of the rules.
use Rattle.std.specs.Prelude.{◌≡◌, ℕ, zero, suc, ◌+◌, ◌<◌, ◌≤◌, ◌↔◌, Bool, true, false, not, ◌&&◌, List, [], ◌∷◌, length, None, Contains, nat_eq}
use Rattle.std.specs.List.Sorted.{IsStrictlyIncreasing}
use Rattle.std.specs.List.{filter, list_any, list_all, range_with_len}
use Rattle.std.proofs.Common.{refl, sym, ◌∙◌, subst, arith}
use Rattle.std.proofs.lemmas.Bool.{true≢false, both_ways, not-true, not_from_false, eqb-true, false_from_ne_true}
use Rattle.std.proofs.lemmas.Cmp.{nat_eq_equiv}
use Rattle.std.proofs.lemmas.List.FromFn.{length-range_with_len, get_or-range_with_len}
use Rattle.std.proofs.lemmas.Map.Keys.{IsStrictlyIncreasing-from_sorted}
use Rattle.list_laws.proofs.Members.{Contains-cons_same, Contains-nil, Contains-map, Contains-from_map, Contains-filter, Contains-from_filter, passes_of}
use Rattle.network_model.specs.Table.{Entry}
use Rattle.network_model.specs.Cover.{rules_at, entry_at, rules_of}
use Rattle.fault_model.specs.Outcomes.{Verdict, Pass, Fail, Outcome, AreOutcomes, entries_of, passed, failed, has, meets, Explains}
use Rattle.fault_model.specs.Findings.{by_number, cleared, outside, is_only, is_none, suspects, guilty, odd}
use Rattle.fault_model.proofs.ByNumber.{by_number_has, by_number_from, by_number_sorted}
use Rattle.fault_model.proofs.Listed.{has-true, has-from, any_place, any_from, not_all_place, find_none, find_none_from, rules_of_has, rules_of_place, passed_outcome, failed_outcome, failed_has, cleared_has, outside_has, outside_on, all_at, not_in, only_has, only_same, only_from, meets_place, meets_from}

-- the suspects
pub suspect_has : (table : List Entry) (outcomes : List Outcome) (r : ℕ) → Contains (rules_of table (failed outcomes)) r → (Contains (cleared table outcomes) r → ⊥)
    → Contains (suspects table outcomes) r
suspect_has table outcomes r on never =
    let test = λ (q : ℕ). not (has (cleared table outcomes) q) in
    let free : test r ≡ true = not_from_false (has (cleared table outcomes) r) (false_from_ne_true (has (cleared table outcomes) r) (λ h. never (has-true (cleared table outcomes) r h))) in
    by_number_has (filter test (rules_of table (failed outcomes))) r (Contains-filter test (rules_of table (failed outcomes)) r on free)

pub suspect_parts : (table : List Entry) (outcomes : List Outcome) (r : ℕ) → Contains (suspects table outcomes) r
    → Contains (rules_of table (failed outcomes)) r × (Contains (cleared table outcomes) r → ⊥)
suspect_parts table outcomes r c =
    let test = λ (q : ℕ). not (has (cleared table outcomes) q) in
    let there = by_number_from (filter test (rules_of table (failed outcomes))) r c in (
      Contains-from_filter test (rules_of table (failed outcomes)) r there,
      not_in (cleared table outcomes) r (passes_of test (rules_of table (failed outcomes)) r there),
    )

-- a failed entry of which this is the only rule that is not cleared
pub record IsAlone (table : List Entry) (outcomes : List Outcome) (r : ℕ) : Type 0 where
  pub entry : ℕ
  pub fails : Contains (failed outcomes) entry
  pub there : Contains (outside table outcomes entry) r
  pub alone : (q : ℕ) → Contains (outside table outcomes entry) q → r ≡ q

pub guilty_has : (table : List Entry) (outcomes : List Outcome) (r : ℕ) → IsAlone table outcomes r → Contains (guilty table outcomes) r
guilty_has table outcomes r a =
    let test = λ (q : ℕ). list_any (λ n. is_only (outside table outcomes n) q) (failed outcomes) in
    let only : is_only (outside table outcomes a.entry) r ≡ true = only_from (outside table outcomes a.entry) r a.there a.alone in
    let passes : test r ≡ true = any_from (λ (n : ℕ). is_only (outside table outcomes n) r) (failed outcomes) a.entry a.fails only in
    let on = rules_of_has table (failed outcomes) a.entry r a.fails (outside_on table outcomes a.entry r a.there).0 in
    by_number_has (filter test (rules_of table (failed outcomes))) r (Contains-filter test (rules_of table (failed outcomes)) r on passes)

pub guilty_alone : (table : List Entry) (outcomes : List Outcome) (r : ℕ) → Contains (guilty table outcomes) r → IsAlone table outcomes r
guilty_alone table outcomes r c =
    let test = λ (q : ℕ). list_any (λ n. is_only (outside table outcomes n) q) (failed outcomes) in
    let passes : test r ≡ true = passes_of test (rules_of table (failed outcomes)) r (by_number_from (filter test (rules_of table (failed outcomes))) r c) in
    let place = any_place (λ (n : ℕ). is_only (outside table outcomes n) r) (failed outcomes) passes in
    record {
      entry = place.0;
      fails = place.1.0;
      there = only_has (outside table outcomes place.0) r place.1.1;
      alone = λ q d. only_same (outside table outcomes place.0) r q place.1.1 d;
    }

-- a bad rule is not cleared
pub bad_not_cleared : (table : List Entry) (outcomes : List Outcome) (bad : List ℕ) → Explains table outcomes bad → (r : ℕ) → Contains bad r
    → Contains (cleared table outcomes) r → ⊥
bad_not_cleared table outcomes bad explains r is c =
    let place = rules_of_place table (passed outcomes) r c in
    let o = passed_outcome outcomes place.0 place.1.0 in
    let on : Contains (rules_at (entry_at table o.0.entry)) r = subst (λ (n : ℕ). Contains (rules_at (entry_at table n)) r) (sym o.1.1) place.1.1 in
    let fails : o.0.verdict ≡ Fail = (explains o.0 o.1.0).1 (meets_from bad (rules_at (entry_at table o.0.entry)) r on is) in
    let both : Pass ≡ Fail = sym o.1.2 ∙ fails in
    cc

-- a failed entry has a bad rule, which is not cleared
pub bad_outside : (table : List Entry) (outcomes : List Outcome) (bad : List ℕ) → Explains table outcomes bad → (n : ℕ) → Contains (failed outcomes) n
    → (r : ℕ) × (Contains bad r × Contains (outside table outcomes n) r)
bad_outside table outcomes bad explains n c =
    let o = failed_outcome outcomes n c in
    let place = meets_place bad (rules_at (entry_at table o.0.entry)) ((explains o.0 o.1.0).0 o.1.2) in
    let on : Contains (rules_at (entry_at table n)) place.0 = subst (λ (m : ℕ). Contains (rules_at (entry_at table m)) place.0) o.1.1 place.1.0 in
    (place.0, (place.1.1, outside_has table outcomes n place.0 on (bad_not_cleared table outcomes bad explains place.0 place.1.1)))

-- rules that are not cleared and that each failed entry meets explain the outcomes
pub explains_from : (table : List Entry) (outcomes : List Outcome) (bad : List ℕ) → ((r : ℕ) → Contains bad r → Contains (cleared table outcomes) r → ⊥)
    → ((n : ℕ) → Contains (failed outcomes) n → (r : ℕ) × (Contains bad r × Contains (rules_at (entry_at table n)) r)) → Explains table outcomes bad
explains_from table outcomes bad never each o c = (
  λ fails. let place = each o.entry (failed_has outcomes o c fails) in meets_from bad (rules_at (entry_at table o.entry)) place.0 place.1.1 place.1.0,
  λ met. by_verdict o.verdict refl met,
)
  where
    by_verdict : (v : Verdict) → o.verdict ≡ v → meets bad (rules_at (entry_at table o.entry)) ≡ true → v ≡ Fail
    by_verdict Fail is met = refl
    by_verdict Pass is met =
        let place = meets_place bad (rules_at (entry_at table o.entry)) met in
        absurd (never place.0 place.1.1 (cleared_has table outcomes o place.0 c is place.1.0))

pub range_has : (count n : ℕ) → 0 < n → n ≤ count → Contains (range_with_len 1 count) n
range_has count (suc k) some inside =
    let e : 1 + k ≡ suc k = omega arith in
    (k, omega (arith, length-range_with_len 1 count), get_or-range_with_len 1 count k (suc k) (omega arith) ∙ e)
range_has count zero some inside = absurd (omega arith)

some_in : (xs : List ℕ) → is_none xs ≡ false → (r : ℕ) × Contains xs r
some_in [] h = absurd (true≢false h)
some_in (x ∷ xs) h = (x, Contains-cons_same x xs)

none_not : (xs : List ℕ) (r : ℕ) → Contains xs r → is_none xs ≡ false
none_not [] r c = absurd (Contains-nil r c)
none_not (x ∷ xs) r c = refl

-- where nothing is odd, each failed entry has a rule that is not cleared
pub not_odd : (table : List Entry) (outcomes : List Outcome) → AreOutcomes table outcomes → odd table outcomes ≡ None → (n : ℕ) → Contains (failed outcomes) n
    → (r : ℕ) × Contains (outside table outcomes n) r
not_odd table outcomes are none n c =
    let o = failed_outcome outcomes n c in
    let in_table = are.inside o.0 o.1.0 in
    let some : 0 < n = subst (λ (m : ℕ). 0 < m) o.1.1 in_table.0 in
    let inside : n ≤ length table = subst (λ (m : ℕ). m ≤ length table) o.1.1 in_table.1 in
    let passes : (has (failed outcomes) n && is_none (outside table outcomes n)) ≡ false =
    find_none (λ (m : ℕ). has (failed outcomes) m && is_none (outside table outcomes m)) (range_with_len 1 (length table)) n none (range_has (length table) n some inside) in
    let fails : has (failed outcomes) n ≡ true = has-from (failed outcomes) n c in
    some_in (outside table outcomes n) (rw fails at passes)

pub odd_none : (table : List Entry) (outcomes : List Outcome) → ((n : ℕ) → Contains (failed outcomes) n → (r : ℕ) × Contains (outside table outcomes n) r)
    → odd table outcomes ≡ None
odd_none table outcomes each =
    find_none_from (λ (m : ℕ). has (failed outcomes) m && is_none (outside table outcomes m)) (range_with_len 1 (length table)) (λ n _. by_test n (has (failed outcomes) n) refl)
  where
    by_test : (n : ℕ) (b : Bool) → has (failed outcomes) n ≡ b → (b && is_none (outside table outcomes n)) ≡ false
    by_test n false is = refl
    by_test n true is = let place = each n (has-true (failed outcomes) n is) in none_not (outside table outcomes n) place.0 place.1

-- where nothing is odd, the suspects explain the outcomes
pub suspects_explain : (table : List Entry) (outcomes : List Outcome) → AreOutcomes table outcomes → odd table outcomes ≡ None
    → Explains table outcomes (suspects table outcomes)
suspects_explain table outcomes are none =
    explains_from table outcomes (suspects table outcomes) (λ r is. (suspect_parts table outcomes r is).1)
    (λ n c. let place = not_odd table outcomes are none n c in
    let parts = outside_on table outcomes n place.0 place.1 in
    (place.0, (suspect_has table outcomes place.0 (rules_of_has table (failed outcomes) n place.0 c parts.0) parts.1, parts.0)))

-- where some rules explain the outcomes, nothing is odd
pub explained_not_odd : (table : List Entry) (outcomes : List Outcome) (bad : List ℕ) → Explains table outcomes bad → odd table outcomes ≡ None
explained_not_odd table outcomes bad explains =
    odd_none table outcomes (λ n c. let place = bad_outside table outcomes bad explains n c in (place.0, place.1.1))

-- nothing is odd exactly where some rules explain the outcomes
pub odd_iff : (table : List Entry) (outcomes : List Outcome) → AreOutcomes table outcomes
    → (odd table outcomes ≡ None) ↔ ((bad : List ℕ) × Explains table outcomes bad)
odd_iff table outcomes are = (
  λ none. (suspects table outcomes, suspects_explain table outcomes are none),
  λ e. explained_not_odd table outcomes e.0 e.1,
)

-- the entry of an outcome has a verdict
tried : (table : List Entry) (outcomes : List Outcome) (o : Outcome) (r : ℕ) → Contains outcomes o → Contains (rules_at (entry_at table o.entry)) r
    → Contains (rules_of table (entries_of outcomes)) r
tried table outcomes o r c on = rules_of_has table (entries_of outcomes) o.entry r (Contains-map (λ (x : Outcome). x.entry) outcomes o c) on

-- the suspects are the rules on entries of outcomes that some explanation has
pub suspect_iff : (table : List Entry) (outcomes : List Outcome) → AreOutcomes table outcomes → (bad : List ℕ) → Explains table outcomes bad → (r : ℕ)
    → Contains (suspects table outcomes) r ↔ (Contains (rules_of table (entries_of outcomes)) r × ((other : List ℕ) × Explains table outcomes other × Contains other r))
suspect_iff table outcomes are bad explains r = (
  λ c. let place = rules_of_place table (failed outcomes) r (suspect_parts table outcomes r c).0 in
      let o = failed_outcome outcomes place.0 place.1.0 in (
        tried table outcomes o.0 r o.1.0 (subst (λ (n : ℕ). Contains (rules_at (entry_at table n)) r) (sym o.1.1) place.1.1),
        (suspects table outcomes, suspects_explain table outcomes are (explained_not_odd table outcomes bad explains), c),
      ),
  λ h. let other = h.1.0 in
      let place = rules_of_place table (entries_of outcomes) r h.0 in
      let o = Contains-from_map (λ (x : Outcome). x.entry) outcomes place.0 place.1.0 in
      let on : Contains (rules_at (entry_at table o.0.entry)) r = subst (λ (n : ℕ). Contains (rules_at (entry_at table n)) r) (sym o.1.1) place.1.1 in
      let fails : o.0.verdict ≡ Fail = (h.1.1 o.0 o.1.0).1 (meets_from other (rules_at (entry_at table o.0.entry)) r on h.1.2) in
      suspect_has table outcomes r (rules_of_has table (failed outcomes) o.0.entry r (failed_has outcomes o.0 o.1.0 fails) on)
      (bad_not_cleared table outcomes other h.1.1 r h.1.2),
)

-- a guilty rule is in every explanation
pub guilty_in_each : (table : List Entry) (outcomes : List Outcome) (r : ℕ) → Contains (guilty table outcomes) r → (bad : List ℕ) → Explains table outcomes bad
    → Contains bad r
guilty_in_each table outcomes r c bad explains =
    let a = guilty_alone table outcomes r c in
    let place = bad_outside table outcomes bad explains a.entry a.fails in
    subst (Contains bad) (sym (a.alone place.0 place.1.1)) place.1.0

-- where a rule is not guilty, the other suspects explain the outcomes
others_explain : (table : List Entry) (outcomes : List Outcome) → AreOutcomes table outcomes → odd table outcomes ≡ None → (r : ℕ)
    → (Contains (guilty table outcomes) r → ⊥) → Explains table outcomes (filter (λ q. not (nat_eq r q)) (suspects table outcomes))
others_explain table outcomes are none r never =
    explains_from table outcomes (filter (λ q. not (nat_eq r q)) (suspects table outcomes))
    (λ q is. (suspect_parts table outcomes q (Contains-from_filter (λ (k : ℕ). not (nat_eq r k)) (suspects table outcomes) q is)).1)
    (λ n c. by_test n c (list_all (nat_eq r) (outside table outcomes n)) refl)
  where
    by_test : (n : ℕ) → Contains (failed outcomes) n → (b : Bool) → list_all (nat_eq r) (outside table outcomes n) ≡ b
        → (q : ℕ) × (Contains (filter (λ k. not (nat_eq r k)) (suspects table outcomes)) q × Contains (rules_at (entry_at table n)) q)
    by_test n c true is =
        let place = not_odd table outcomes are none n c in
        let same : (q : ℕ) → Contains (outside table outcomes n) q → r ≡ q = λ q d. eqb-true r q (all_at (nat_eq r) (outside table outcomes n) q is d) in
        absurd (never (guilty_has table outcomes r (record {
          entry = n;
          fails = c;
          there = subst (Contains (outside table outcomes n)) (sym (same place.0 place.1)) place.1;
          alone = same;
        })))
    by_test n c false is =
        let place = not_all_place (nat_eq r) (outside table outcomes n) is in
        let parts = outside_on table outcomes n place.0 place.1.0 in
        let suspect = suspect_has table outcomes place.0 (rules_of_has table (failed outcomes) n place.0 c parts.0) parts.1 in
        (place.0, (Contains-filter (λ (k : ℕ). not (nat_eq r k)) (suspects table outcomes) place.0 suspect (not_from_false (nat_eq r place.0) place.1.1), parts.0))

-- the guilty are the rules in every explanation
pub guilty_iff : (table : List Entry) (outcomes : List Outcome) → AreOutcomes table outcomes → (bad : List ℕ) → Explains table outcomes bad → (r : ℕ)
    → Contains (guilty table outcomes) r ↔ ((other : List ℕ) → Explains table outcomes other → Contains other r)
guilty_iff table outcomes are bad explains r = (guilty_in_each table outcomes r, λ each. by_test each (has (guilty table outcomes) r) refl)
  where
    by_test : ((other : List ℕ) → Explains table outcomes other → Contains other r) → (b : Bool) → has (guilty table outcomes) r ≡ b → Contains (guilty table outcomes) r
    by_test each true is = has-true (guilty table outcomes) r is
    by_test each false is =
        let test = λ (k : ℕ). not (nat_eq r k) in
        let none = explained_not_odd table outcomes bad explains in
        let never = λ (c : Contains (guilty table outcomes) r). both_ways (has (guilty table outcomes) r) is (has-from (guilty table outcomes) r c) in
        let in_others = each (filter test (suspects table outcomes)) (others_explain table outcomes are none r never) in
        absurd (both_ways (nat_eq r r) (not-true (nat_eq r r) (passes_of test (suspects table outcomes) r in_others)) (nat_eq_equiv.refl r))

-- both lists rise
pub findings_rise : (table : List Entry) (outcomes : List Outcome) → IsStrictlyIncreasing (suspects table outcomes) × IsStrictlyIncreasing (guilty table outcomes)
findings_rise table outcomes =
    let free = λ (q : ℕ). not (has (cleared table outcomes) q) in
    let only = λ (q : ℕ). list_any (λ n. is_only (outside table outcomes n) q) (failed outcomes) in
    let rises : (test : ℕ → Bool) → IsStrictlyIncreasing (by_number (filter test (rules_of table (failed outcomes)))) = λ test.
    IsStrictlyIncreasing-from_sorted (by_number (filter test (rules_of table (failed outcomes)))) (by_number_sorted (filter test (rules_of table (failed outcomes)))) in
    (rises free, rises only)
