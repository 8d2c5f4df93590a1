-- Verdicts of entries as outcomes.
use Rattle.std.specs.Prelude.{◌≡◌, ◌≢◌, ◌⊎◌, ℕ, zero, suc, ◌+◌, ◌<◌, Bool, true, false, ◌||◌, List, [], ◌∷◌, length, replicate, slice_get, slice_index_or, slice_set, Option, None, Some, AllPairs, All, Contains}
use Rattle.std.proofs.Common.{refl, sym, ap, ◌∙◌, subst, inl, inr, ⊎_elim, arith}
use Rattle.std.proofs.lemmas.Bool.{cases_eq, or_cases, or_left, or_right}
use Rattle.std.proofs.lemmas.List.Elements.{Contains-get_or}
use Rattle.std.proofs.lemmas.List.Kept.{AllPairs-cons}
use Rattle.std.proofs.lemmas.Option.{slice_get_within, same_Some}
use Rattle.list_laws.proofs.Members.{Contains-cons_same, Contains-cons_later, Contains-cons_cases, Contains-nil, Contains-map, Contains-from_map}
use Rattle.model_laws.proofs.Numbered.{AllPairs-nil}
use Rattle.network_model.specs.Table.{Entry}
use Rattle.network_model.specs.Cover.{rules_at, entry_at, rules_of}
use Rattle.fault_model.specs.Outcomes as model
use Rattle.fault_model.specs.Outcomes.{Outcome, AreOutcomes, entries_of, passed, failed, has}
use Rattle.fault_model.specs.Findings.{cleared, has_verdict}
use Rattle.fault_model.proofs.Listed.{has-true, has-from, has-false, rules_of_has, rules_of_place, passed_outcome, failed_outcome, passed_has, failed_has}
use Rattle.suspect_book.specs.declared.verdict.Verdict.{Verdict}
use Rattle.suspect_book.specs.declared.verdict.Verdict.TheVariants.{Pass, Fail}
use Rattle.suspect_book.specs.Verdicts.{meaning, inner, verdict_at, outcomes_from, outcomes}

abbrev Verdicts : Type 0
Verdicts = List (Option Verdict)

-- tests that pass together are equal
pub same_test : (a b : Bool) → (a ≡ true → b ≡ true) → (b ≡ true → a ≡ true) → a ≡ b
same_test true b there back = sym (there refl)
same_test false true there back = back refl
same_test false false there back = refl

-- an outcome for each verdict
outcome_in : (m : ℕ) (vs : Verdicts) (k : ℕ) (v : Verdict) → slice_get vs k ≡ Some (Some v) → Contains (outcomes_from m vs) (record { entry = m + k; verdict = meaning v })
outcome_in m [] k v e = cc
outcome_in m (None ∷ vs) zero v e = cc
outcome_in m (Some w ∷ vs) zero v e =
    let same : w ≡ v = cc in
    let here : m ≡ m + 0 = omega arith in
    let own : ◌≡◌ {A = Outcome} (record { entry = m; verdict = meaning w }) (record { entry = m + 0; verdict = meaning v }) = λ i. record { entry = here i; verdict = meaning (same i) } in
    subst (Contains (outcomes_from m (Some w ∷ vs))) own (Contains-cons_same (record { entry = m; verdict = meaning w }) (outcomes_from (suc m) vs))
outcome_in m (None ∷ vs) (suc k) v e =
    let same : suc m + k ≡ m + suc k = omega arith in
    subst (λ (n : ℕ). Contains (outcomes_from (suc m) vs) (record { entry = n; verdict = meaning v })) same (outcome_in (suc m) vs k v e)
outcome_in m (Some w ∷ vs) (suc k) v e =
    let same : suc m + k ≡ m + suc k = omega arith in
    Contains-cons_later (record { entry = m; verdict = meaning w }) (record { entry = m + suc k; verdict = meaning v }) (outcomes_from (suc m) vs)
    (subst (λ (n : ℕ). Contains (outcomes_from (suc m) vs) (record { entry = n; verdict = meaning v })) same (outcome_in (suc m) vs k v e))

-- a verdict for each outcome
record IsPlace (m : ℕ) (vs : Verdicts) (o : Outcome) : Type 0 where
  row : ℕ
  verdict : Verdict
  at : slice_get vs row ≡ Some (Some verdict)
  entry : o.entry ≡ m + row
  means : o.verdict ≡ meaning verdict

later_place : (m : ℕ) (v : Option Verdict) (vs : Verdicts) (o : Outcome) → IsPlace (suc m) vs o → IsPlace m (v ∷ vs) o
later_place m v vs o p = record { row = suc p.row; verdict = p.verdict; at = p.at; entry = omega (arith, p.entry); means = p.means }

outcome_place : (m : ℕ) (vs : Verdicts) (o : Outcome) → Contains (outcomes_from m vs) o → IsPlace m vs o
outcome_place m [] o c = absurd (Contains-nil o c)
outcome_place m (None ∷ vs) o c = later_place m None vs o (outcome_place (suc m) vs o c)
outcome_place m (Some v ∷ vs) o c =
    let first : Outcome = record { entry = m; verdict = meaning v } in
    ⊎_elim (λ (same : first ≡ o). record {
      row = zero;
      verdict = v;
      at = refl;
      entry = sym (ap (λ (x : Outcome). x.entry) same) ∙ omega arith;
      means = sym (ap (λ (x : Outcome). x.verdict) same);
    })
    (λ later. later_place m (Some v) vs o (outcome_place (suc m) vs o later))
    (Contains-cons_cases first o (outcomes_from (suc m) vs) c)

inner_some : (o : Option (Option Verdict)) (v : Verdict) → inner o ≡ Some v → o ≡ Some (Some v)
inner_some None v e = cc
inner_some (Some w) v e = ap Some e

pub verdict_outcome : (vs : Verdicts) (n : ℕ) (v : Verdict) → verdict_at vs n ≡ Some v → Contains (outcomes vs) (record { entry = n; verdict = meaning v })
verdict_outcome vs zero v e = cc
verdict_outcome vs (suc k) v e =
    let same : 1 + k ≡ suc k = omega arith in
    subst (λ (n : ℕ). Contains (outcomes vs) (record { entry = n; verdict = meaning v })) same (outcome_in 1 vs k v (inner_some (slice_get vs k) v e))

pub outcome_verdict : (vs : Verdicts) (o : Outcome) → Contains (outcomes vs) o → (v : Verdict) × ((verdict_at vs o.entry ≡ Some v) × (o.verdict ≡ meaning v))
outcome_verdict vs o c =
    let p = outcome_place 1 vs o c in
    let same : suc p.row ≡ o.entry = omega (arith, p.entry) in
    (p.verdict, (subst (λ (n : ℕ). verdict_at vs n ≡ Some p.verdict) same (ap inner p.at), p.means))

-- the outcomes are of different entries of the table
apart_from : (m n : ℕ) (vs : Verdicts) → m < n → All (λ (o : Outcome). m ≢ o.entry) (outcomes_from n vs)
apart_from m n vs less k d inside same =
    let p = outcome_place n vs (slice_index_or (outcomes_from n vs) k d) (Contains-get_or (outcomes_from n vs) k d inside) in
    omega (arith, p.entry)

different_from : (m : ℕ) (vs : Verdicts) → AllPairs (λ (a b : Outcome). a.entry ≢ b.entry) (outcomes_from m vs)
different_from m [] = AllPairs-nil (λ (a b : Outcome). a.entry ≢ b.entry)
different_from m (None ∷ vs) = different_from (suc m) vs
different_from m (Some v ∷ vs) =
    AllPairs-cons (λ (a b : Outcome). a.entry ≢ b.entry) (record { entry = m; verdict = meaning v }) (outcomes_from (suc m) vs)
    (apart_from m (suc m) vs (omega arith)) (different_from (suc m) vs)

pub are_outcomes : (table : List Entry) (vs : Verdicts) → length vs ≡ length table → AreOutcomes table (outcomes vs)
are_outcomes table vs each = record {
  inside = λ o c. let p = outcome_place 1 vs o c in
      let within = slice_get_within vs p.row (Some p.verdict) p.at in
      (omega (arith, p.entry), omega (arith, p.entry));
  different = different_from 1 vs;
}

-- which entries failed, and which have a verdict
failed_at : (v : Verdict) → model.Fail ≡ meaning v → v ≡ Fail
failed_at Pass e = cc
failed_at Fail e = refl

passed_at : (v : Verdict) → model.Pass ≡ meaning v → v ≡ Pass
passed_at Pass e = refl
passed_at Fail e = cc

pub failed_verdict : (vs : Verdicts) (n : ℕ) → Contains (failed (outcomes vs)) n → verdict_at vs n ≡ Some Fail
failed_verdict vs n c =
    let o = failed_outcome (outcomes vs) n c in
    let v = outcome_verdict vs o.0 o.1.0 in
    let fails : v.0 ≡ Fail = failed_at v.0 (sym o.1.2 ∙ v.1.1) in
    subst (λ (m : ℕ). verdict_at vs m ≡ Some Fail) o.1.1 (v.1.0 ∙ ap Some fails)

pub verdict_failed : (vs : Verdicts) (n : ℕ) → verdict_at vs n ≡ Some Fail → Contains (failed (outcomes vs)) n
verdict_failed vs n e = failed_has (outcomes vs) (record { entry = n; verdict = model.Fail }) (verdict_outcome vs n Fail e) refl

pub passed_verdict : (vs : Verdicts) (n : ℕ) → Contains (passed (outcomes vs)) n → verdict_at vs n ≡ Some Pass
passed_verdict vs n c =
    let o = passed_outcome (outcomes vs) n c in
    let v = outcome_verdict vs o.0 o.1.0 in
    let passes : v.0 ≡ Pass = passed_at v.0 (sym o.1.2 ∙ v.1.1) in
    subst (λ (m : ℕ). verdict_at vs m ≡ Some Pass) o.1.1 (v.1.0 ∙ ap Some passes)

pub verdict_passed : (vs : Verdicts) (n : ℕ) → verdict_at vs n ≡ Some Pass → Contains (passed (outcomes vs)) n
verdict_passed vs n e = passed_has (outcomes vs) (record { entry = n; verdict = model.Pass }) (verdict_outcome vs n Pass e) refl

pub not_failed : (vs : Verdicts) (n : ℕ) (o : Option Verdict) → verdict_at vs n ≡ o → o ≢ Some Fail → has (failed (outcomes vs)) n ≡ false
not_failed vs n o is other = has-false (failed (outcomes vs)) n (λ c. other (sym is ∙ failed_verdict vs n c))

pub has_verdict_at : (vs : Verdicts) (n : ℕ) (v : Verdict) → verdict_at vs n ≡ Some v → has_verdict (outcomes vs) n ≡ true
has_verdict_at vs n v e =
    has-from (entries_of (outcomes vs)) n (Contains-map (λ (o : Outcome). o.entry) (outcomes vs) (record { entry = n; verdict = meaning v }) (verdict_outcome vs n v e))

pub no_verdict_at : (vs : Verdicts) (n : ℕ) → verdict_at vs n ≡ None → has_verdict (outcomes vs) n ≡ false
no_verdict_at vs n e = has-false (entries_of (outcomes vs)) n (λ c.
    let o = Contains-from_map (λ (x : Outcome). x.entry) (outcomes vs) n c in
    let v = outcome_verdict vs o.0 o.1.0 in
    let some : verdict_at vs n ≡ Some v.0 = subst (λ (m : ℕ). verdict_at vs m ≡ Some v.0) o.1.1 v.1.0 in
    cc)

-- a rule on some entry with a verdict
abbrev IsOn : List Entry → Verdicts → Verdict → ℕ → Type 0
IsOn table vs v r = (n : ℕ) × ((verdict_at vs n ≡ Some v) × Contains (rules_at (entry_at table n)) r)

cleared_on : (table : List Entry) (vs : Verdicts) (r : ℕ) → has (cleared table (outcomes vs)) r ≡ true → IsOn table vs Pass r
cleared_on table vs r h =
    let place = rules_of_place table (passed (outcomes vs)) r (has-true (cleared table (outcomes vs)) r h) in
    (place.0, (passed_verdict vs place.0 place.1.0, place.1.1))

on_cleared : (table : List Entry) (vs : Verdicts) (r : ℕ) → IsOn table vs Pass r → has (cleared table (outcomes vs)) r ≡ true
on_cleared table vs r on = has-from (cleared table (outcomes vs)) r (rules_of_has table (passed (outcomes vs)) on.0 r (verdict_passed vs on.0 on.1.0) on.1.1)

failing_on : (table : List Entry) (vs : Verdicts) (r : ℕ) → has (rules_of table (failed (outcomes vs))) r ≡ true → IsOn table vs Fail r
failing_on table vs r h =
    let place = rules_of_place table (failed (outcomes vs)) r (has-true (rules_of table (failed (outcomes vs))) r h) in
    (place.0, (failed_verdict vs place.0 place.1.0, place.1.1))

on_failing : (table : List Entry) (vs : Verdicts) (r : ℕ) → IsOn table vs Fail r → has (rules_of table (failed (outcomes vs))) r ≡ true
on_failing table vs r on =
    has-from (rules_of table (failed (outcomes vs))) r (rules_of_has table (failed (outcomes vs)) on.0 r (verdict_failed vs on.0 on.1.0) on.1.1)

-- one more verdict
get_set_same : (vs : Verdicts) (k : ℕ) (v : Option Verdict) → k < length vs → slice_get (slice_set vs k v) k ≡ Some v
get_set_same [] k v l = absurd (omega arith)
get_set_same (w ∷ vs) zero v l = refl
get_set_same (w ∷ vs) (suc k) v l = get_set_same vs k v (omega arith)

get_set_other : (vs : Verdicts) (k j : ℕ) (v : Option Verdict) → (j ≡ k → ⊥) → slice_get (slice_set vs k v) j ≡ slice_get vs j
get_set_other [] k j v ne = refl
get_set_other (w ∷ vs) zero zero v ne = absurd (ne refl)
get_set_other (w ∷ vs) zero (suc j) v ne = refl
get_set_other (w ∷ vs) (suc k) zero v ne = refl
get_set_other (w ∷ vs) (suc k) (suc j) v ne = get_set_other vs k j v (λ e. ne (ap suc e))

pub at_other : (vs : Verdicts) (k n : ℕ) (v : Verdict) → (n ≡ suc k → ⊥) → verdict_at (slice_set vs k (Some v)) n ≡ verdict_at vs n
at_other vs k zero v ne = refl
at_other vs k (suc j) v ne = ap inner (get_set_other vs k j (Some v) (λ e. ne (ap suc e)))

pub at_same : (vs : Verdicts) (k : ℕ) (v : Verdict) → k < length vs → verdict_at (slice_set vs k (Some v)) (suc k) ≡ Some v
at_same vs k v l = ap inner (get_set_same vs k (Some v) l)

module _ (table : List Entry) (vs : Verdicts) (k : ℕ) (v : Verdict) (l : k < length vs) (free : verdict_at vs (suc k) ≡ None) where
  abbrev after : Verdicts
  after = slice_set vs k (Some v)

  on_after : (w : Verdict) (r : ℕ) → IsOn table vs w r → IsOn table after w r
  on_after w r on =
      let ne : on.0 ≡ suc k → ⊥ = λ e. let at : verdict_at vs (suc k) ≡ Some w = subst (λ (n : ℕ). verdict_at vs n ≡ Some w) e on.1.0 in cc in
      (on.0, (at_other vs k on.0 v ne ∙ on.1.0, on.1.1))

  on_before : (w : Verdict) (r : ℕ) → IsOn table after w r → ((w ≡ v) × Contains (rules_at (entry_at table (suc k))) r) ⊎ IsOn table vs w r
  on_before w r on =
      ⊎_elim (λ (same : on.0 ≡ suc k).
      let at : verdict_at after (suc k) ≡ Some w = subst (λ (n : ℕ). verdict_at after n ≡ Some w) same on.1.0 in
      let own : Some v ≡ Some w = sym (at_same vs k v l) ∙ at in
      inl (same_Some w v (sym own), subst (λ (n : ℕ). Contains (rules_at (entry_at table n)) r) same on.1.1))
      (λ other. inr (on.0, (sym (at_other vs k on.0 v other) ∙ on.1.0, on.1.1)))
      (cases_eq on.0 (suc k))

  on_new : (r : ℕ) → Contains (rules_at (entry_at table (suc k))) r → IsOn table after v r
  on_new r on = (suc k, (at_same vs k v l, on))

-- the rules with a verdict of an entry that gets it, and no others than before
pub pass_clears : (table : List Entry) (vs : Verdicts) (k : ℕ) → k < length vs → verdict_at vs (suc k) ≡ None → (r : ℕ)
    → has (cleared table (outcomes (slice_set vs k (Some Pass)))) r ≡ (has (rules_at (entry_at table (suc k))) r || has (cleared table (outcomes vs)) r)
pass_clears table vs k l free r =
    let own = rules_at (entry_at table (suc k)) in
    let old = has (cleared table (outcomes vs)) r in
    same_test (has (cleared table (outcomes (slice_set vs k (Some Pass)))) r) (has own r || old)
    (λ h. ⊎_elim (λ new. or_left (has own r) old (has-from own r new.1)) (λ before. or_right (has own r) old (on_cleared table vs r before))
    (on_before table vs k Pass l free Pass r (cleared_on table (slice_set vs k (Some Pass)) r h)))
    (λ h. on_cleared table (slice_set vs k (Some Pass)) r (⊎_elim (λ new. on_new table vs k Pass l free r (has-true own r new))
    (λ before. on_after table vs k Pass l free Pass r (cleared_on table vs r before)) (or_cases (has own r) old h)))

pub fail_clears : (table : List Entry) (vs : Verdicts) (k : ℕ) → k < length vs → verdict_at vs (suc k) ≡ None → (r : ℕ)
    → has (cleared table (outcomes (slice_set vs k (Some Fail)))) r ≡ has (cleared table (outcomes vs)) r
fail_clears table vs k l free r =
    same_test (has (cleared table (outcomes (slice_set vs k (Some Fail)))) r) (has (cleared table (outcomes vs)) r)
    (λ h. ⊎_elim (λ new. absurd (pass_not_fail new.0)) (λ before. on_cleared table vs r before)
    (on_before table vs k Fail l free Pass r (cleared_on table (slice_set vs k (Some Fail)) r h)))
    (λ h. on_cleared table (slice_set vs k (Some Fail)) r (on_after table vs k Fail l free Pass r (cleared_on table vs r h)))
  where
    pass_not_fail : Pass ≡ Fail → ⊥
    pass_not_fail e = cc

pub fail_fails : (table : List Entry) (vs : Verdicts) (k : ℕ) → k < length vs → verdict_at vs (suc k) ≡ None → (r : ℕ)
    → has (rules_of table (failed (outcomes (slice_set vs k (Some Fail))))) r ≡ (has (rules_at (entry_at table (suc k))) r || has (rules_of table (failed (outcomes vs))) r)
fail_fails table vs k l free r =
    let own = rules_at (entry_at table (suc k)) in
    let old = has (rules_of table (failed (outcomes vs))) r in
    same_test (has (rules_of table (failed (outcomes (slice_set vs k (Some Fail))))) r) (has own r || old)
    (λ h. ⊎_elim (λ new. or_left (has own r) old (has-from own r new.1)) (λ before. or_right (has own r) old (on_failing table vs r before))
    (on_before table vs k Fail l free Fail r (failing_on table (slice_set vs k (Some Fail)) r h)))
    (λ h. on_failing table (slice_set vs k (Some Fail)) r (⊎_elim (λ new. on_new table vs k Fail l free r (has-true own r new))
    (λ before. on_after table vs k Fail l free Fail r (failing_on table vs r before)) (or_cases (has own r) old h)))

pub pass_fails : (table : List Entry) (vs : Verdicts) (k : ℕ) → k < length vs → verdict_at vs (suc k) ≡ None → (r : ℕ)
    → has (rules_of table (failed (outcomes (slice_set vs k (Some Pass))))) r ≡ has (rules_of table (failed (outcomes vs))) r
pass_fails table vs k l free r =
    same_test (has (rules_of table (failed (outcomes (slice_set vs k (Some Pass))))) r) (has (rules_of table (failed (outcomes vs))) r)
    (λ h. ⊎_elim (λ new. absurd (fail_not_pass new.0)) (λ before. on_failing table vs r before)
    (on_before table vs k Pass l free Fail r (failing_on table (slice_set vs k (Some Pass)) r h)))
    (λ h. on_failing table (slice_set vs k (Some Pass)) r (on_after table vs k Pass l free Fail r (failing_on table vs r h)))
  where
    fail_not_pass : Fail ≡ Pass → ⊥
    fail_not_pass e = cc

-- without verdicts there are no outcomes
pub none_counted : (n m : ℕ) → outcomes_from m (replicate n None) ≡ []
none_counted zero m = refl
none_counted (suc n) m = none_counted n (suc m)
