-- What a book keeps, with one verdict more.
use Rattle.std.specs.Prelude.{◌≡◌, ℕ, zero, suc, ◌+◌, ◌<◌, ◌≤◌, Bool, true, false, ◌||◌, List, [], ◌∷◌, length, replicate, slice_index, slice_index_or, slice_set, Option, None, Some, Contains}
use Rattle.std.specs.List.{filter, list_any, range_with_len}
use Rattle.std.proofs.lemmas.List.Folds.{list_any-append}
use Rattle.rule_cover.proofs.Kept.{range_more}
use Rattle.std.specs.List.Sorted.{IsStrictlyIncreasing}
use Rattle.list_laws.proofs.Members.{Contains-from_filter}
use Rattle.std.proofs.lemmas.Bool.{and_parts}
use Rattle.std.proofs.Common.{refl, sym, ap, ◌∙◌, subst, arith}
use Rattle.std.proofs.lemmas.List.{length-set, length-replicate}
use Rattle.std.proofs.lemmas.List.Elements.{Contains-get_or}
use Rattle.network_model.specs.Table.{Entry}
use Rattle.network_model.specs.Cover.{rules_at, entry_at, rules_of}
use Rattle.network_model.specs.Plan.{IsPlan}
use Rattle.rule_cover.specs.Places.{numbers_of}
use Rattle.rule_cover.specs.PlanValue.{PlanValue}
use Rattle.rule_cover.proofs.NetRules.{table_rules}
use Rattle.fault_model.specs.Outcomes.{Outcome, failed, has}
use Rattle.fault_model.specs.Findings.{cleared, is_only, is_alone, suspects, guilty, suspects_on}
use Rattle.fault_model.proofs.Explained.{suspect_parts, guilty_alone, findings_rise}
use Rattle.fault_model.proofs.Listed.{rules_of_has, rules_of_place, outside_on, only_has}
use Rattle.suspect_book.specs.declared.verdict.Verdict.{Verdict}
use Rattle.suspect_book.specs.declared.verdict.Verdict.TheVariants.{Pass, Fail}
use Rattle.suspect_book.specs.BookValue.{IsKept}
use Rattle.suspect_book.specs.Marked.{Tells, TellsLeft, is_rule, is_lone}
use Rattle.suspect_book.specs.Verdicts.{verdict_at, outcomes}
use Rattle.suspect_book.proofs.Found.{suspect_test, guilty_test, left_tells, listed_in_order}
use Rattle.suspect_book.proofs.VerdictLists.{pass_clears, fail_clears, pass_fails, fail_fails, none_counted}

-- the rules of an entry are among the network's
pub among_numbers : (plan : PlanValue) (numbers rules : List ℕ) (n : ℕ) → IsPlan plan.net plan.hops plan.plan → numbers ≡ numbers_of plan.net
    → rules ≡ rules_at (entry_at plan.plan.table n) → (i : ℕ) → i < length rules → Contains numbers (slice_index rules i)
among_numbers plan numbers rules n is_plan numbers_are own i l =
    let r = slice_index rules i in
    let on : Contains (rules_at (entry_at plan.plan.table n)) r = subst (λ (xs : List ℕ). Contains xs r) own (Contains-get_or rules i 0 l) in
    subst (λ (xs : List ℕ). Contains xs r) (sym numbers_are) (table_rules plan.net plan.hops plan.plan.table is_plan.table n r on)

-- marks tell by equal tests
pub tells_same : (numbers : List ℕ) (p q : ℕ → Bool) (marks : List Bool) → ((r : ℕ) → p r ≡ q r) → Tells numbers p marks → Tells numbers q marks
tells_same numbers p q marks same told i l = told i l ∙ same (slice_index numbers i)

module _ (plan : PlanValue) (numbers : List ℕ) (vs : List (Option Verdict)) (passed_marks failed_marks : List Bool) (kept : IsKept plan numbers vs passed_marks failed_marks)
    (n k : ℕ) (rules : List ℕ) (v : Verdict) (new : List Bool) (number : n ≡ suc k) (inside : n ≤ length plan.plan.table) (free : verdict_at vs n ≡ None)
    (own : rules ≡ rules_at (entry_at plan.plan.table n)) (room : length new ≡ length numbers) where
  within : k < length vs
  within = omega (arith, kept.each)

  open_at : verdict_at vs (suc k) ≡ None
  open_at = subst (λ (m : ℕ). verdict_at vs m ≡ None) number free

  rules_there : (r : ℕ) → has rules r ≡ has (rules_at (entry_at plan.plan.table (suc k))) r
  rules_there r = ap (λ (xs : List ℕ). has xs r) own ∙ ap (λ (m : ℕ). has (rules_at (entry_at plan.plan.table m)) r) number

  pub kept_pass : v ≡ Pass → ((test : ℕ → Bool) → Tells numbers test passed_marks → Tells numbers (λ r. has rules r || test r) new)
      → IsKept plan numbers (slice_set vs k (Some v)) new failed_marks
  kept_pass is marks = subst (λ (w : Verdict). IsKept plan numbers (slice_set vs k (Some w)) new failed_marks) (sym is) (record {
    planned = kept.planned;
    numbers_are = kept.numbers_are;
    rises = kept.rises;
    each = length-set vs k (Some Pass) ∙ kept.each;
    passed_room = room;
    failed_room = kept.failed_room;
    passed = tells_same numbers (λ r. has rules r || has (cleared plan.plan.table (outcomes vs)) r) (has (cleared plan.plan.table (outcomes (slice_set vs k (Some Pass))))) new
        (λ r. ap (λ (b : Bool). b || has (cleared plan.plan.table (outcomes vs)) r) (rules_there r) ∙ sym (pass_clears plan.plan.table vs k within open_at r))
        (marks (has (cleared plan.plan.table (outcomes vs))) kept.passed);
    failing = tells_same numbers (has (rules_of plan.plan.table (failed (outcomes vs)))) (has (rules_of plan.plan.table (failed (outcomes (slice_set vs k (Some Pass)))))) failed_marks
        (λ r. sym (pass_fails plan.plan.table vs k within open_at r)) kept.failing;
  })

  pub kept_fail : v ≡ Fail → ((test : ℕ → Bool) → Tells numbers test failed_marks → Tells numbers (λ r. has rules r || test r) new)
      → IsKept plan numbers (slice_set vs k (Some v)) passed_marks new
  kept_fail is marks = subst (λ (w : Verdict). IsKept plan numbers (slice_set vs k (Some w)) passed_marks new) (sym is) (record {
    planned = kept.planned;
    numbers_are = kept.numbers_are;
    rises = kept.rises;
    each = length-set vs k (Some Fail) ∙ kept.each;
    passed_room = kept.passed_room;
    failed_room = room;
    passed = tells_same numbers (has (cleared plan.plan.table (outcomes vs))) (has (cleared plan.plan.table (outcomes (slice_set vs k (Some Fail))))) passed_marks
        (λ r. sym (fail_clears plan.plan.table vs k within open_at r)) kept.passed;
    failing = tells_same numbers (λ r. has rules r || has (rules_of plan.plan.table (failed (outcomes vs))) r) (has (rules_of plan.plan.table (failed (outcomes (slice_set vs k (Some Fail)))))) new
        (λ r. ap (λ (b : Bool). b || has (rules_of plan.plan.table (failed (outcomes vs))) r) (rules_there r) ∙ sym (fail_fails plan.plan.table vs k within open_at r))
        (marks (has (rules_of plan.plan.table (failed (outcomes vs)))) kept.failing);
  })

-- a book with no verdict
unmarked : (count p : ℕ) → slice_index_or (replicate count false) p false ≡ false
unmarked zero p = refl
unmarked (suc count) zero = refl
unmarked (suc count) (suc p) = unmarked count p

pub kept_new : (plan : PlanValue) (numbers : List ℕ) (vs : List (Option Verdict)) (passed_marks failed_marks : List Bool) → IsPlan plan.net plan.hops plan.plan → numbers ≡ numbers_of plan.net → IsStrictlyIncreasing numbers
    → vs ≡ replicate (length plan.plan.table) None → passed_marks ≡ replicate (length numbers) false → failed_marks ≡ replicate (length numbers) false
    → IsKept plan numbers vs passed_marks failed_marks
kept_new plan numbers vs passed_marks failed_marks planned numbers_are rises empty no_pass no_fail =
    let none = ap outcomes empty ∙ none_counted (length plan.plan.table) 1 in
    record {
      planned = planned;
      numbers_are = numbers_are;
      rises = rises;
      each = ap length empty ∙ length-replicate (length plan.plan.table) None;
      passed_room = ap length no_pass ∙ length-replicate (length numbers) false;
      failed_room = ap length no_fail ∙ length-replicate (length numbers) false;
      passed = λ p l. ap (λ (m : List Bool). slice_index_or m p false) no_pass ∙ (unmarked (length numbers) p
          ∙ sym (ap (λ os. has (cleared plan.plan.table os) (slice_index numbers p)) none));
      failing = λ p l. ap (λ (m : List Bool). slice_index_or m p false) no_fail ∙ (unmarked (length numbers) p
          ∙ sym (ap (λ os. has (rules_of plan.plan.table (failed os)) (slice_index numbers p)) none));
    }

-- the marks tell which rules are suspects
pub suspects_told : (plan : PlanValue) (numbers : List ℕ) (vs : List (Option Verdict)) (passed_marks failed_marks : List Bool) → IsKept plan numbers vs passed_marks failed_marks
    → (ns : List ℕ) (ms ps : List Bool) → ns ≡ numbers → ms ≡ failed_marks → ps ≡ passed_marks → TellsLeft ns (has (suspects plan.plan.table (outcomes vs))) ms ps
suspects_told plan numbers vs passed_marks failed_marks kept ns ms ps ns_are ms_are ps_are =
    let test = has (suspects plan.plan.table (outcomes vs)) in
    subst (λ (l : List ℕ). TellsLeft l test ms ps) (sym ns_are)
    (subst (λ (l : List Bool). TellsLeft numbers test l ps) (sym ms_are)
    (subst (λ (l : List Bool). TellsLeft numbers test failed_marks l) (sym ps_are)
    (left_tells numbers (has (rules_of plan.plan.table (failed (outcomes vs)))) (has (cleared plan.plan.table (outcomes vs))) test failed_marks passed_marks
    (suspect_test plan.plan.table (outcomes vs)) kept.failing kept.passed)))

-- and, with marks of those that are alone, which are guilty
pub guilty_told : (plan : PlanValue) (numbers : List ℕ) (vs : List (Option Verdict)) (passed_marks failed_marks alone_marks : List Bool) → IsKept plan numbers vs passed_marks failed_marks
    → Tells numbers (is_alone plan.plan.table (outcomes vs)) alone_marks
    → (ns : List ℕ) (ms ps : List Bool) → ns ≡ numbers → ms ≡ alone_marks → ps ≡ passed_marks → TellsLeft ns (has (guilty plan.plan.table (outcomes vs))) ms ps
guilty_told plan numbers vs passed_marks failed_marks alone_marks kept told ns ms ps ns_are ms_are ps_are =
    let test = has (guilty plan.plan.table (outcomes vs)) in
    subst (λ (l : List ℕ). TellsLeft l test ms ps) (sym ns_are)
    (subst (λ (l : List Bool). TellsLeft numbers test l ps) (sym ms_are)
    (subst (λ (l : List Bool). TellsLeft numbers test alone_marks l) (sym ps_are)
    (left_tells numbers (is_alone plan.plan.table (outcomes vs)) (has (cleared plan.plan.table (outcomes vs))) test alone_marks passed_marks
    (guilty_test plan.plan.table (outcomes vs)) told kept.passed)))

-- a rule of a failed entry is one of the numbers
failed_among : (plan : PlanValue) (numbers : List ℕ) → IsPlan plan.net plan.hops plan.plan → numbers ≡ numbers_of plan.net → (ns : List ℕ) (r : ℕ) → Contains (rules_of plan.plan.table ns) r → Contains numbers r
failed_among plan numbers is_plan are ns r c =
    let place = rules_of_place plan.plan.table ns r c in
    subst (λ (xs : List ℕ). Contains xs r) (sym are) (table_rules plan.net plan.hops plan.plan.table is_plan.table place.0 r place.1.1)

-- the numbers that are suspects are the suspects, and so with the guilty
pub suspects_listed : (plan : PlanValue) (numbers : List ℕ) (os : List Outcome) → IsPlan plan.net plan.hops plan.plan → numbers ≡ numbers_of plan.net → IsStrictlyIncreasing numbers
    → filter (has (suspects plan.plan.table os)) numbers ≡ suspects plan.plan.table os
suspects_listed plan numbers os is_plan are rises =
    listed_in_order numbers (suspects plan.plan.table os) rises (findings_rise plan.plan.table os).0
    (λ r c. failed_among plan numbers is_plan are (failed os) r (suspect_parts plan.plan.table os r c).0)

pub guilty_listed : (plan : PlanValue) (numbers : List ℕ) (os : List Outcome) → IsPlan plan.net plan.hops plan.plan → numbers ≡ numbers_of plan.net → IsStrictlyIncreasing numbers
    → filter (has (guilty plan.plan.table os)) numbers ≡ guilty plan.plan.table os
guilty_listed plan numbers os is_plan are rises =
    listed_in_order numbers (guilty plan.plan.table os) rises (findings_rise plan.plan.table os).1
    (λ r c. let a = guilty_alone plan.plan.table os r c in
    failed_among plan numbers is_plan are (failed os) r (rules_of_has plan.plan.table (failed os) a.entry r a.fails (outside_on plan.plan.table os a.entry r a.there).0))

-- a lone suspect is one of the numbers
pub lone_among : (plan : PlanValue) (numbers : List ℕ) (os : List Outcome) (n r : ℕ) → IsPlan plan.net plan.hops plan.plan → numbers ≡ numbers_of plan.net
    → is_lone plan.plan.table os n r ≡ true → Contains numbers r
lone_among plan numbers os n r is_plan are lone =
    let rules = rules_at (entry_at plan.plan.table n) in
    let only = (and_parts (has (failed os) n) (is_only (suspects_on plan.plan.table os n) r) lone).1 in
    let on = Contains-from_filter (has (suspects plan.plan.table os)) rules r (only_has (suspects_on plan.plan.table os n) r only) in
    subst (λ (xs : List ℕ). Contains xs r) (sym are) (table_rules plan.net plan.hops plan.plan.table is_plan.table n r on)

pub one_among : (numbers : List ℕ) (r : ℕ) → Contains numbers r → (i : ℕ) → i < 1 → Contains numbers (slice_index (r ∷ []) i)
one_among numbers r c zero l = c
one_among numbers r c (suc i) l = absurd (omega arith)

-- the lone suspects of one entry more
any_last : (p : ℕ → Bool) (row : ℕ) → list_any p (range_with_len 1 (row + 1)) ≡ (list_any p (range_with_len 1 row) || (p (row + 1) || false))
any_last p row = ap (list_any p) (range_more row) ∙ list_any-append p (range_with_len 1 row) ((row + 1) ∷ [])

swapped : (a b : Bool) → ((a || false) || b) ≡ (b || (a || false))
swapped true true = refl
swapped true false = refl
swapped false true = refl
swapped false false = refl

nothing_more : (b : Bool) → (b || (false || false)) ≡ b
nothing_more true = refl
nothing_more false = refl

pub lone_more : (table : List Entry) (os : List Outcome) (row rule : ℕ) (numbers : List ℕ) (old new : List Bool) (ns : List ℕ) (ms : List Bool) → ns ≡ numbers → ms ≡ old
    → ((r : ℕ) → is_rule (Some rule) r ≡ is_lone table os (row + 1) r)
    → ((test : ℕ → Bool) → Tells ns test ms → Tells ns (λ r. has (rule ∷ []) r || test r) new)
    → Tells numbers (λ r. list_any (λ n. is_lone table os n r) (range_with_len 1 row)) old
    → Tells numbers (λ r. list_any (λ n. is_lone table os n r) (range_with_len 1 (row + 1))) new
lone_more table os row rule numbers old new ns ms ns_are ms_are lone marks told =
    let before = λ (r : ℕ). list_any (λ n. is_lone table os n r) (range_with_len 1 row) in
    let lent : Tells ns before ms = subst (λ (l : List ℕ). Tells l before ms) (sym ns_are) (subst (λ (l : List Bool). Tells numbers before l) (sym ms_are) told) in
    tells_same numbers (λ r. has (rule ∷ []) r || before r) (λ r. list_any (λ n. is_lone table os n r) (range_with_len 1 (row + 1))) new
    (λ r. ap (λ (b : Bool). (b || false) || before r) (lone r) ∙ (swapped (is_lone table os (row + 1) r) (before r) ∙ sym (any_last (λ n. is_lone table os n r) row)))
    (subst (λ (l : List ℕ). Tells l (λ r. has (rule ∷ []) r || before r) new) ns_are (marks before lent))

pub lone_none : (table : List Entry) (os : List Outcome) (row : ℕ) (numbers : List ℕ) (marks : List Bool)
    → ((r : ℕ) → is_rule None r ≡ is_lone table os (row + 1) r)
    → Tells numbers (λ r. list_any (λ n. is_lone table os n r) (range_with_len 1 row)) marks
    → Tells numbers (λ r. list_any (λ n. is_lone table os n r) (range_with_len 1 (row + 1))) marks
lone_none table os row numbers marks none told =
    tells_same numbers (λ r. list_any (λ n. is_lone table os n r) (range_with_len 1 row)) (λ r. list_any (λ n. is_lone table os n r) (range_with_len 1 (row + 1))) marks
    (λ r. sym (any_last (λ n. is_lone table os n r) row ∙ (ap (λ (b : Bool). list_any (λ n. is_lone table os n r) (range_with_len 1 row) || (b || false)) (sym (none r))
    ∙ nothing_more (list_any (λ n. is_lone table os n r) (range_with_len 1 row)))))
    told
