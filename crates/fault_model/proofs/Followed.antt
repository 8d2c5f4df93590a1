-- What following some bad rules gives, they explain.
use Rattle.std.specs.Prelude.{◌≡◌, ℕ, zero, suc, ◌+◌, ◌<◌, ◌≤◌, ◌↔◌, Bool, true, false, cond, not, List, length, map, slice_get, slice_index_or, Option, None, Some, Contains, nat_eq}
use Rattle.std.specs.List.{list_any, range_with_len}
use Rattle.std.specs.Ordering.{is_eq}
use Rattle.std.proofs.Common.{refl, sym, ap, ◌∙◌, subst, ⊎_elim, arith}
use Rattle.std.proofs.lemmas.Bool.{and_from}
use Rattle.std.proofs.lemmas.Cmp.{nat_eq_equiv}
use Rattle.std.proofs.lemmas.List.Elements.{Contains-get_or}
use Rattle.std.proofs.lemmas.List.FromFn.{length-range_with_len, get_or-range_with_len}
use Rattle.std.proofs.lemmas.Option.{slice_get-get_or}
use Rattle.list_laws.proofs.Members.{Contains-map, Contains-from_map, Contains-from_filter}
use Rattle.network_model.specs.Bits.{header_cmp}
use Rattle.network_model.specs.Network.{Network}
use Rattle.network_model.specs.Walk.{Delivered, Walk}
use Rattle.network_model.specs.Classes.{walk_from}
use Rattle.network_model.specs.Table.{Entry}
use Rattle.network_model.specs.Cover.{IsExercised, rules_at, entry_at, rules_of, IsGreedy}
use Rattle.network_model.specs.Plan.{Plan, IsPlan, reserved}
use Rattle.network_model.specs.Field.{arrival}
use Rattle.network_model.proofs.CoverLaws.{exercised_covered}
use Rattle.network_model.proofs.HeaderOrder.{header_cmp_reflexive}
use Rattle.network_model.proofs.PlanLaws.{exercised_at}
use Rattle.network_model.proofs.TableLaws.{no_entry, entry_class, packet_travels}
use Rattle.fault_model.specs.Outcomes.{Verdict, Pass, Fail, Outcome, meets, failed, Explains}
use Rattle.fault_model.specs.Findings.{suspects, guilty}
use Rattle.fault_model.specs.Follow.{arrives_as, verdict_of, outcome_of, follow}
use Rattle.fault_model.proofs.Explained.{suspect_has, bad_not_cleared, guilty_in_each}
use Rattle.fault_model.proofs.Listed.{has-from, rules_of_has, rules_of_place, failed_has, meets_from}
use Rattle.fault_model.proofs.Telling.{telling_kept, telling_cases}

-- a number of an entry of the table
abbrev pub IsNumber : List Entry → ℕ → Type 0
IsNumber table n = (0 < n) × (n ≤ length table)

pub entry_there : (table : List Entry) (n : ℕ) → IsNumber table n → (e : Entry) × (Contains table e × (entry_at table n ≡ Some e))
entry_there table zero h = absurd (omega arith)
entry_there table (suc k) h =
    let l : k < length table = omega arith in
    (slice_index_or table k no_entry, (Contains-get_or table k no_entry l, slice_get-get_or table k no_entry l))

-- the number of a reserved entry
in_range : (count n : ℕ) → Contains (range_with_len 1 count) n → (0 < n) × (n ≤ count)
in_range count n (k, inside, is) =
    let l : k < count = omega (arith, length-range_with_len 1 count) in
    let e : 1 + k ≡ n = sym (get_or-range_with_len 1 count k n l) ∙ is in
    (omega arith, omega arith)

pub reserved_number : (plan : Plan) (n : ℕ) → Contains (reserved plan) n → IsNumber plan.table n
reserved_number plan n c =
    in_range (length plan.table) n (Contains-from_filter (λ m. not (list_any (nat_eq m) plan.probes)) (range_with_len 1 (length plan.table)) n c)

pub probe_number : (table : List Entry) (probes : List ℕ) → IsGreedy table probes → (n : ℕ) → Contains probes n → IsNumber table n
probe_number table probes greedy n c =
    let at : slice_get probes c.0 ≡ Some n = slice_get-get_or probes c.0 n c.1 ∙ ap Some c.2 in
    (greedy.each c.0 n at).inside

-- what a packet comes to where its rules meet bad ones, and where they don't
abbrev verdict_where : Entry → Bool → Verdict
verdict_where e met = cond (arrives_as (cond met None (Some (e.to, e.arrives))) e.to e.arrives) Pass Fail

arrives : (e : Entry) → arrives_as (Some (e.to, e.arrives)) e.to e.arrives ≡ true
arrives e = and_from (nat_eq e.to e.to) (is_eq (header_cmp e.arrives e.arrives)) (nat_eq_equiv.refl e.to) (ap is_eq (header_cmp_reflexive e.arrives))

passes_where : (e : Entry) → verdict_where e false ≡ Pass
passes_where e = ap (λ (b : Bool). cond b Pass Fail) (arrives e)

-- a packet fails exactly if a rule of its entry is bad
fails_iff : (net : Network) (hops : ℕ) (bad : List ℕ) (e : Entry) → walk_from net hops e.from e.least ≡ record { rules = e.rules; end = Delivered e.to e.arrives }
    → (verdict_of net hops bad (Some e) ≡ Fail) ↔ (meets bad e.rules ≡ true)
fails_iff net hops bad e travels = (λ fails. by_test (meets bad e.rules) refl fails, λ met. gives ∙ ap (verdict_where e) met)
  where
    gives : verdict_of net hops bad (Some e) ≡ verdict_where e (meets bad e.rules)
    gives = ap (λ (w : Walk). cond (arrives_as (cond (list_any (λ r. list_any (nat_eq r) bad) w.rules) None (arrival w.end)) e.to e.arrives) Pass Fail) travels

    by_test : (b : Bool) → meets bad e.rules ≡ b → verdict_of net hops bad (Some e) ≡ Fail → b ≡ true
    by_test true is fails = refl
    by_test false is fails =
        let passes : verdict_of net hops bad (Some e) ≡ Pass = gives ∙ (ap (verdict_where e) is ∙ passes_where e) in
        let both : Pass ≡ Fail = sym passes ∙ fails in
        cc

-- an outcome of an entry where these rules are bad
pub record IsFollowed (net : Network) (hops : ℕ) (plan : Plan) (bad : List ℕ) (o : Outcome) : Type 0 where
  pub inside : IsNumber plan.table o.entry
  pub is : o ≡ outcome_of net hops bad plan.table o.entry

pub followed_explained : (net : Network) (hops : ℕ) (plan : Plan) (bad : List ℕ) → IsPlan net hops plan → (o : Outcome) → IsFollowed net hops plan bad o
    → (o.verdict ≡ Fail) ↔ (meets bad (rules_at (entry_at plan.table o.entry)) ≡ true)
followed_explained net hops plan bad p o f =
    let there = entry_there plan.table o.entry f.inside in
    let e : Entry = there.0 in
    let iff = fails_iff net hops bad e (packet_travels net hops e (entry_class net hops plan.table p.table e there.1.0)) in
    let verdict : o.verdict ≡ verdict_of net hops bad (Some e) = ap (λ (x : Outcome). x.verdict) f.is ∙ ap (verdict_of net hops bad) there.1.1 in
    let rules : meets bad (rules_at (entry_at plan.table o.entry)) ≡ meets bad e.rules = ap (λ (x : Option Entry). meets bad (rules_at x)) there.1.1 in
    (λ fails. rules ∙ iff.0 (sym verdict ∙ fails), λ met. verdict ∙ iff.1 (sym rules ∙ met))

-- each outcome that following gives is one
pub follow_followed : (net : Network) (hops : ℕ) (plan : Plan) (bad : List ℕ) → IsPlan net hops plan → (o : Outcome) → Contains (follow net hops plan bad) o
    → IsFollowed net hops plan bad o
follow_followed net hops plan bad p o c =
    let outcome = outcome_of net hops bad plan.table in
    ⊎_elim (λ first. let place = Contains-from_map outcome plan.probes o first in
    let same : place.0 ≡ o.entry = ap (λ (x : Outcome). x.entry) place.1.1 in
    record {
      inside = subst (IsNumber plan.table) same (probe_number plan.table plan.probes p.probes place.0 place.1.0);
      is = sym place.1.1 ∙ ap outcome same;
    })
    (λ further. let same : further.0 ≡ o.entry = sym (ap (λ (x : Outcome). x.entry) further.1.1) in
    record {
      inside = subst (IsNumber plan.table) same (reserved_number plan further.0 further.1.0);
      is = further.1.1 ∙ ap outcome same;
    })
    (telling_cases net hops plan bad (length (reserved plan)) (map outcome plan.probes) o c)

-- the bad rules explain what following them gives
pub follow_explained : (net : Network) (hops : ℕ) (plan : Plan) (bad : List ℕ) → IsPlan net hops plan → Explains plan.table (follow net hops plan bad) bad
follow_explained net hops plan bad p o c = followed_explained net hops plan bad p o (follow_followed net hops plan bad p o c)

-- the outcome of each probe is among them
pub follow_probes : (net : Network) (hops : ℕ) (plan : Plan) (bad : List ℕ) (n : ℕ) → Contains plan.probes n
    → Contains (follow net hops plan bad) (outcome_of net hops bad plan.table n)
follow_probes net hops plan bad n c =
    let outcome = outcome_of net hops bad plan.table in
    telling_kept net hops plan bad (length (reserved plan)) (map outcome plan.probes) (outcome n) (Contains-map outcome plan.probes n c)

-- each exercised bad rule is a suspect
pub follow_suspects : (net : Network) (hops : ℕ) (plan : Plan) (bad : List ℕ) → IsPlan net hops plan → (r : ℕ) → IsExercised net hops r → Contains bad r
    → Contains (suspects plan.table (follow net hops plan bad)) r
follow_suspects net hops plan bad p r x is =
    let all = follow net hops plan bad in
    let explains = follow_explained net hops plan bad p in
    let place = rules_of_place plan.table plan.probes r (exercised_covered net hops plan.table plan.probes p.table p.probes r x) in
    let o : Outcome = outcome_of net hops bad plan.table place.0 in
    let there : Contains all o = follow_probes net hops plan bad place.0 place.1.0 in
    let fails : o.verdict ≡ Fail = (explains o there).1 (meets_from bad (rules_at (entry_at plan.table place.0)) r place.1.1 is) in
    suspect_has plan.table all r (rules_of_has plan.table (failed all) place.0 r (failed_has all o there fails) place.1.1)
    (bad_not_cleared plan.table all bad explains r is)

-- each guilty rule is bad
pub follow_guilty : (net : Network) (hops : ℕ) (plan : Plan) (bad : List ℕ) → IsPlan net hops plan → (r : ℕ)
    → Contains (guilty plan.table (follow net hops plan bad)) r → Contains bad r
follow_guilty net hops plan bad p r c = guilty_in_each plan.table (follow net hops plan bad) r c bad (follow_explained net hops plan bad p)

-- a rule on an entry is on a probe
pub on_probe : (net : Network) (hops : ℕ) (plan : Plan) → IsPlan net hops plan → (n r : ℕ) → Contains (rules_at (entry_at plan.table n)) r
    → Contains (rules_of plan.table plan.probes) r
on_probe net hops plan p n r on =
    exercised_covered net hops plan.table plan.probes p.table p.probes r
    (exercised_at net hops plan.table p.table r n (has-from (rules_at (entry_at plan.table n)) r on))
