-- Packets that were sent, and their verdicts in a book.
use Rattle.std.specs.Prelude.{◌≡◌, ◌↔◌, ℕ, zero, suc, ◌+◌, ◌-◌, ◌<◌, ◌≤◌, List, [], ◌∷◌, ◌++◌, length, replicate, slice_get, slice_set, Option, None, Some, Result, Ok, Err, OnOk, IsErrOf, Contains}
use Rattle.std.proofs.Common.{refl, sym, ap, ◌∙◌, subst, ⊎_elim, arith, inl, inr}
use Rattle.std.proofs.lemmas.Bool.{cases_eq}
use Rattle.std.proofs.lemmas.List.{length-set, length-replicate, map-append}
use Rattle.std.proofs.lemmas.List.Elements.{Contains-append_left, Contains-append_right, Contains-append_cases}
use Rattle.std.proofs.lemmas.Option.{same_Some}
use Rattle.list_laws.proofs.Members.{Contains-cons_same, Contains-nil, Contains-one, Contains-map}
use Rattle.fault_model.specs.Outcomes.{Outcome, entries_of}
use Rattle.rule_cover.specs.PlanValue.{PlanValue}
use Rattle.suspect_book.specs.declared.verdict.Counted.{Counted}
use Rattle.suspect_book.specs.declared.verdict.Verdict.{Verdict}
use Rattle.suspect_book.specs.BookValue.{BookValue}
use Rattle.suspect_book.specs.Verdicts.{meaning, inner, verdict_at, outcomes}
use Rattle.suspect_book.proofs.VerdictLists.{verdict_outcome, outcome_verdict, none_counted}
use Rattle.trial_run.specs.Trial.{outcome, outcomes_of}
use Rattle.trial_run.specs.Underway.{IsNoted}
use Rattle.trial_run.proofs.SameFindings.{AreSame}

abbrev Verdicts : Type 0
Verdicts = List (Option Verdict)

-- one more verdict
get_set_same : (vs : Verdicts) (k : ℕ) (v : Option Verdict) → k < length vs → slice_get (slice_set vs k v) k ≡ Some v
get_set_same [] k v l = absurd (omega arith)
get_set_same (w ∷ vs) zero v l = refl
get_set_same (w ∷ vs) (suc k) v l = get_set_same vs k v (omega arith)

get_set_other : (vs : Verdicts) (k j : ℕ) (v : Option Verdict) → (j ≡ k → ⊥) → slice_get (slice_set vs k v) j ≡ slice_get vs j
get_set_other [] k j v ne = refl
get_set_other (w ∷ vs) zero zero v ne = absurd (ne refl)
get_set_other (w ∷ vs) zero (suc j) v ne = refl
get_set_other (w ∷ vs) (suc k) zero v ne = refl
get_set_other (w ∷ vs) (suc k) (suc j) v ne = get_set_other vs k j v (λ e. ne (ap suc e))

module _ (vs : Verdicts) (k : ℕ) (v : Verdict) (inside : k < length vs) (free : verdict_at vs (suc k) ≡ None) (sent : List Outcome) (same : AreSame sent (outcomes vs)) where
  abbrev after : Verdicts
  after = slice_set vs k (Some v)

  abbrev new : Outcome
  new = record { entry = suc k; verdict = meaning v }

  at_other : (n : ℕ) → (n ≡ suc k → ⊥) → verdict_at after n ≡ verdict_at vs n
  at_other zero ne = refl
  at_other (suc j) ne = ap inner (get_set_other vs k j (Some v) (λ e. ne (ap suc e)))

  at_same : verdict_at after (suc k) ≡ Some v
  at_same = ap inner (get_set_same vs k (Some v) inside)

  -- the outcome of an entry with a verdict
  told : (ws : Verdicts) (o : Outcome) (w : Verdict) → verdict_at ws o.entry ≡ Some w → o.verdict ≡ meaning w → Contains (outcomes ws) o
  told ws o w at means =
      let own : ◌≡◌ {A = Outcome} (record { entry = o.entry; verdict = meaning w }) o = λ i. record { entry = o.entry; verdict = sym means i } in
      subst (Contains (outcomes ws)) own (verdict_outcome ws o.entry w at)

  old_told : (o : Outcome) → Contains sent o → Contains (outcomes after) o
  old_told o c =
      let heard = outcome_verdict vs o ((same o).0 c) in
      let ne : o.entry ≡ suc k → ⊥ = λ e. let at : verdict_at vs (suc k) ≡ Some heard.0 = subst (λ (n : ℕ). verdict_at vs n ≡ Some heard.0) e heard.1.0 in cc in
      told after o heard.0 (at_other o.entry ne ∙ heard.1.0) heard.1.1

  told_sent : (o : Outcome) → Contains (outcomes after) o → Contains (sent ++ new ∷ []) o
  told_sent o c =
      let heard = outcome_verdict after o c in
      ⊎_elim (λ (e : o.entry ≡ suc k).
      let at : verdict_at after (suc k) ≡ Some heard.0 = subst (λ (n : ℕ). verdict_at after n ≡ Some heard.0) e heard.1.0 in
      let is : heard.0 ≡ v = same_Some heard.0 v (sym at ∙ at_same) in
      let own : new ≡ o = λ i. record { entry = sym e i; verdict = (sym (heard.1.1 ∙ ap meaning is)) i } in
      Contains-append_right sent (new ∷ []) o (subst (Contains (new ∷ [])) own (Contains-cons_same new [])))
      (λ (ne : o.entry ≡ suc k → ⊥). Contains-append_left sent (new ∷ []) o ((same o).1 (told vs o heard.0 (sym (at_other o.entry ne) ∙ heard.1.0) heard.1.1)))
      (cases_eq o.entry (suc k))

  pub same_more : AreSame (sent ++ new ∷ []) (outcomes after)
  same_more o = (
    λ c. ⊎_elim (λ old. old_told o old)
        (λ last. subst (Contains (outcomes after)) (sym (Contains-one new o last)) (verdict_outcome after (suc k) v at_same))
        (Contains-append_cases sent (new ∷ []) o c),
    told_sent o,
  )

-- nothing was sent, and the book has no verdict
pub noted_none : (plan : PlanValue) (book : BookValue) (sent : List (ℕ × Verdict)) → book.plan ≡ plan → book.verdicts ≡ replicate (length plan.plan.table) None → sent ≡ [] → IsNoted plan book sent
noted_none plan book sent plan_is none nothing =
    let empty : outcomes book.verdicts ≡ [] = ap outcomes none ∙ none_counted (length plan.plan.table) 1 in
    record {
      plan_is = plan_is;
      each = ap length none ∙ length-replicate (length plan.plan.table) None;
      same = λ o. (
        λ c. absurd (Contains-nil o (subst (λ (l : List (ℕ × Verdict)). Contains (outcomes_of l) o) nothing c)),
        λ c. absurd (Contains-nil o (subst (λ (l : List Outcome). Contains l o) empty c)),
      );
    }

-- one more packet
pub noted_more : (plan : PlanValue) (book next : BookValue) (sent now : List (ℕ × Verdict)) (n : ℕ) (v : Verdict) → IsNoted plan book sent → 0 < n → n ≤ length plan.plan.table → verdict_at book.verdicts n ≡ None
    → next.plan ≡ book.plan → next.verdicts ≡ slice_set book.verdicts (n - 1) (Some v) → now ≡ sent ++ (n, v) ∷ [] → IsNoted plan next now
noted_more plan book next sent now zero v noted some inside free plan_stays verdicts_are now_is = absurd (omega arith)
noted_more plan book next sent now (suc k) v noted some inside free plan_stays verdicts_are now_is =
    let within : k < length book.verdicts = omega (arith, noted.each) in
    let place : suc k - 1 ≡ k = omega arith in
    let set : next.verdicts ≡ slice_set book.verdicts k (Some v) = verdicts_are ∙ ap (λ (m : ℕ). slice_set book.verdicts m (Some v)) place in
    let longer : outcomes_of now ≡ outcomes_of sent ++ outcome (suc k, v) ∷ [] = ap outcomes_of now_is ∙ map-append outcome sent ((suc k, v) ∷ []) in
    record {
      plan_is = plan_stays ∙ noted.plan_is;
      each = ap length set ∙ (length-set book.verdicts k (Some v) ∙ noted.each);
      same = λ o.
          let both = same_more book.verdicts k v within free (outcomes_of sent) noted.same o in (
            λ c. subst (λ (vs : Verdicts). Contains (outcomes vs) o) (sym set) (both.0 (subst (λ (l : List Outcome). Contains l o) longer c)),
            λ c. subst (λ (l : List Outcome). Contains l o) (sym longer) (both.1 (subst (λ (vs : Verdicts). Contains (outcomes vs) o) set c)),
          );
    }

-- an entry whose packet was not sent has no verdict
pub noted_free : (plan : PlanValue) (book : BookValue) (sent : List (ℕ × Verdict)) (n : ℕ) → IsNoted plan book sent → (Contains (entries_of (outcomes_of sent)) n → ⊥) → verdict_at book.verdicts n ≡ None
noted_free plan book sent n noted new = by_verdict (verdict_at book.verdicts n) refl
  where
    by_verdict : (o : Option Verdict) → verdict_at book.verdicts n ≡ o → o ≡ None
    by_verdict None is = refl
    by_verdict (Some v) is =
        let there = (noted.same (record { entry = n; verdict = meaning v })).1 (verdict_outcome book.verdicts n v is) in
        absurd (new (Contains-map (λ (o : Outcome). o.entry) (outcomes_of sent) (record { entry = n; verdict = meaning v }) there))

-- an entry without a verdict gets this one
pub counted_once : {T : Type 0} (r : Result T Counted) (old now : BookValue) (n : ℕ) (v : Verdict) → verdict_at old.verdicts n ≡ None
    → OnOk r (now ≡ record old { verdicts = slice_set old.verdicts (n - 1) (Some v) })
    → ((given : Verdict) → IsErrOf r (record { verdict = given }) ↔ (verdict_at old.verdicts n ≡ Some given)) → now ≡ record old { verdicts = slice_set old.verdicts (n - 1) (Some v) }
counted_once (Ok unit) old now n v free ok counted = ok
counted_once (Err e) old now n v free ok counted = let given : verdict_at old.verdicts n ≡ Some e.verdict = (counted e.verdict).0 refl in absurd (cc)
