-- What an entry tells that is sent after the probes.
use Rattle.std.specs.Prelude.{◌≡◌, ◌⊎◌, ℕ, ◌≤◌, Bool, true, false, List, [], ◌∷◌, ◌++◌, length, map, Contains}
use Rattle.std.proofs.Common.{refl, sym, ◌∙◌, subst, inl, inr, ⊎_elim, arith}
use Rattle.std.proofs.lemmas.Bool.{both_ways}
use Rattle.std.proofs.lemmas.List.{length-map}
use Rattle.std.proofs.lemmas.List.Elements.{Contains-append_left, Contains-append_right, Contains-append_cases}
use Rattle.list_laws.proofs.Members.{Contains-cons_same, Contains-map, Contains-one}
use Rattle.network_model.specs.Network.{Network}
use Rattle.network_model.specs.Cover.{rules_at, entry_at, rules_of}
use Rattle.network_model.specs.Plan.{Plan, IsPlan, reserved}
use Rattle.fault_model.specs.Outcomes.{Verdict, Pass, Fail, Outcome, has, passed, failed, Explains}
use Rattle.fault_model.specs.Findings.{cleared, outside, suspects, guilty, IsOneSuspect}
use Rattle.fault_model.specs.Follow.{outcome_of, follow}
use Rattle.fault_model.proofs.Explained.{suspect_has, suspect_parts, guilty_has, bad_outside}
use Rattle.fault_model.proofs.Followed.{follow_explained, on_probe}
use Rattle.fault_model.proofs.Listed.{has-true, has-from, rules_of_has, rules_of_place, passed_outcome, failed_has, cleared_has, outside_on}
use Rattle.fault_model.proofs.Telling.{longer_front, telling_front, telling_next, telling_one}

module _ (net : Network) (hops : ℕ) (plan : Plan) (bad : List ℕ) (p : IsPlan net hops plan) where
  -- outcomes that were sent, with those of the probes, and further ones that the bad rules explain
  record IsLater (sent now : List Outcome) (o : Outcome) : Type 0 where
    probes : (n : ℕ) → Contains plan.probes n → Contains sent (outcome_of net hops bad plan.table n)
    kept : (x : Outcome) → Contains sent x → Contains now x
    there : Contains now o
    explains : Explains plan.table now bad

  cleared_later : (sent now : List Outcome) (o : Outcome) → IsLater sent now o → (q : ℕ) → Contains (cleared plan.table sent) q → Contains (cleared plan.table now) q
  cleared_later sent now o l q c =
      let place = rules_of_place plan.table (passed sent) q c in
      let x = passed_outcome sent place.0 place.1.0 in
      cleared_has plan.table now x.0 q (l.kept x.0 x.1.0) x.1.2 (subst (λ (n : ℕ). Contains (rules_at (entry_at plan.table n)) q) (sym x.1.1) place.1.1)

  -- a rule of the entry is its one suspect, or is cleared
  cleared_or_one : (sent now : List Outcome) (o : Outcome) (r : ℕ) → IsLater sent now o → IsOneSuspect plan.table sent o.entry r → (q : ℕ)
      → Contains (rules_at (entry_at plan.table o.entry)) q → Contains (cleared plan.table now) q ⊎ (q ≡ r)
  cleared_or_one sent now o r l one q on =
      let place = rules_of_place plan.table plan.probes q (on_probe net hops plan p o.entry q on) in
      by_verdict place.0 place.1.1 (outcome_of net hops bad plan.table place.0).verdict refl (l.probes place.0 place.1.0)
    where
      by_cleared : Contains (rules_of plan.table (failed sent)) q → (b : Bool) → has (cleared plan.table sent) q ≡ b → Contains (cleared plan.table now) q ⊎ (q ≡ r)
      by_cleared fails true is = inl (cleared_later sent now o l q (has-true (cleared plan.table sent) q is))
      by_cleared fails false is =
          inr (one.one q on (suspect_has plan.table sent q fails (λ c. both_ways (has (cleared plan.table sent) q) is (has-from (cleared plan.table sent) q c))))

      by_verdict : (n : ℕ) → Contains (rules_at (entry_at plan.table n)) q → (v : Verdict) → (outcome_of net hops bad plan.table n).verdict ≡ v
          → Contains sent (outcome_of net hops bad plan.table n) → Contains (cleared plan.table now) q ⊎ (q ≡ r)
      by_verdict n there Pass is c = inl (cleared_later sent now o l q (cleared_has plan.table sent (outcome_of net hops bad plan.table n) q c is there))
      by_verdict n there Fail is c =
          by_cleared (rules_of_has plan.table (failed sent) n q (failed_has sent (outcome_of net hops bad plan.table n) c is) there) (has (cleared plan.table sent) q) refl

  -- where the entry fails, its one suspect is guilty
  guilty_later : (sent now : List Outcome) (o : Outcome) (r : ℕ) → IsLater sent now o → IsOneSuspect plan.table sent o.entry r → o.verdict ≡ Fail
      → Contains (guilty plan.table now) r
  guilty_later sent now o r l one fails =
      let failing = failed_has now o l.there fails in
      let place = bad_outside plan.table now bad l.explains o.entry failing in
      let only : (q : ℕ) → Contains (outside plan.table now o.entry) q → q ≡ r = λ q c.
      let parts = outside_on plan.table now o.entry q c in
      ⊎_elim (λ is. absurd (parts.1 is)) (λ same. same) (cleared_or_one sent now o r l one q parts.0) in
      guilty_has plan.table now r (record {
        entry = o.entry;
        fails = failing;
        there = subst (Contains (outside plan.table now o.entry)) (only place.0 place.1.1) place.1.1;
        alone = λ q c. sym (only q c);
      })

  -- where it passes, that rule is no suspect
  no_suspect_later : (sent now : List Outcome) (o : Outcome) (r : ℕ) → IsLater sent now o → IsOneSuspect plan.table sent o.entry r → o.verdict ≡ Pass
      → Contains (suspects plan.table now) r → ⊥
  no_suspect_later sent now o r l one passes c = (suspect_parts plan.table now r c).1 (cleared_has plan.table now o r l.there passes one.on)

  module _ (sent later : List Outcome) (o : Outcome) (parted : follow net hops plan bad ≡ sent ++ o ∷ later) (long : length plan.probes ≤ length sent) where
    first_sent : (n : ℕ) → Contains plan.probes n → Contains sent (outcome_of net hops bad plan.table n)
    first_sent n c =
        let outcome = outcome_of net hops bad plan.table in
        let first : List Outcome = map outcome plan.probes in
        let front = telling_front net hops plan bad (length (reserved plan)) first in
        let short : length first ≤ length sent = omega (arith, length-map plan.probes outcome) in
        let more = longer_front first sent front.0 (o ∷ later) (sym front.1 ∙ parted) short in
        subst (λ (l : List Outcome). Contains l (outcome n)) (sym more.1) (Contains-append_left first more.0 (outcome n) (Contains-map outcome plan.probes n c))

    in_all : (x : Outcome) → Contains (sent ++ o ∷ later) x → Contains (follow net hops plan bad) x
    in_all x c = subst (λ (l : List Outcome). Contains l x) (sym parted) c

    -- at once
    just_later : IsLater sent (sent ++ o ∷ []) o
    just_later = record {
      probes = first_sent;
      kept = λ x c. Contains-append_left sent (o ∷ []) x c;
      there = Contains-append_right sent (o ∷ []) o (Contains-cons_same o []);
      explains = λ x c. follow_explained net hops plan bad p x (in_all x (⊎_elim
          (λ old. Contains-append_left sent (o ∷ later) x old)
          (λ new. Contains-append_right sent (o ∷ later) x (subst (Contains (o ∷ later)) (sym (Contains-one o x new)) (Contains-cons_same o later)))
          (Contains-append_cases sent (o ∷ []) x c)));
    }

    -- and in the end
    at_last : IsLater sent (follow net hops plan bad) o
    at_last = record {
      probes = first_sent;
      kept = λ x c. in_all x (Contains-append_left sent (o ∷ later) x c);
      there = in_all o (Contains-append_right sent (o ∷ later) o (Contains-cons_same o later));
      explains = follow_explained net hops plan bad p;
    }

    pub sent_one : (r : ℕ) × IsOneSuspect plan.table sent o.entry r
    sent_one = telling_one plan sent o.entry
        (telling_next net hops plan bad (length (reserved plan)) (map (outcome_of net hops bad plan.table) plan.probes) sent o later parted
        (omega (arith, length-map plan.probes (outcome_of net hops bad plan.table))))

    pub sent_guilty : (r : ℕ) → IsOneSuspect plan.table sent o.entry r → o.verdict ≡ Fail
        → Contains (guilty plan.table (sent ++ o ∷ [])) r × Contains (guilty plan.table (follow net hops plan bad)) r
    sent_guilty r one fails =
        (guilty_later sent (sent ++ o ∷ []) o r just_later one fails, guilty_later sent (follow net hops plan bad) o r at_last one fails)

    pub sent_cleared : (r : ℕ) → IsOneSuspect plan.table sent o.entry r → o.verdict ≡ Pass
        → (Contains (suspects plan.table (sent ++ o ∷ [])) r → ⊥) × (Contains (suspects plan.table (follow net hops plan bad)) r → ⊥)
    sent_cleared r one passes =
        (no_suspect_later sent (sent ++ o ∷ []) o r just_later one passes, no_suspect_later sent (follow net hops plan bad) o r at_last one passes)
