-- Following sends each entry once.
use Rattle.std.specs.Prelude.{◌≡◌, ◌≢◌, ℕ, zero, suc, ◌<◌, true, List, [], ◌∷◌, ◌++◌, length, map, take, slice_get, slice_index_or, Option, None, Some, AllPairs, Contains}
use Rattle.std.proofs.Common.{refl, sym, ap, ◌∙◌, subst, arith}
use Rattle.std.proofs.lemmas.List.{length-map, get_or-map, get_or-take, get_or_default, length-take-le, map-append}
use Rattle.std.proofs.lemmas.List.Elements.{Contains-get_or}
use Rattle.std.proofs.lemmas.List.Quantifiers.{all_pairs_push}
use Rattle.list_laws.proofs.Members.{Contains-cons_same, Contains-cons_later, Contains-map}
use Rattle.std.proofs.lemmas.Option.{slice_get-get_or}
use Rattle.network_model.specs.Network.{Network}
use Rattle.network_model.specs.Table.{Entry}
use Rattle.network_model.specs.Cover.{fresh, rules_at, entry_at, rules_of, gain, IsBest, IsGreedy}
use Rattle.network_model.specs.Plan.{Plan, IsPlan, reserved}
use Rattle.fault_model.specs.Outcomes.{Outcome, AreOutcomes, entries_of, has}
use Rattle.fault_model.specs.Findings.{telling}
use Rattle.fault_model.specs.Follow.{outcome_of, and_told, and_telling, follow}
use Rattle.fault_model.proofs.Followed.{follow_followed}
use Rattle.fault_model.proofs.Listed.{has-from, not_in, rules_of_has}
use Rattle.fault_model.proofs.Telling.{telling_new, telling_front}

-- a list whose numbers were all seen adds nothing
nothing_fresh : (seen rules : List ℕ) → ((r : ℕ) → Contains rules r → Contains seen r) → fresh seen rules ≡ 0
nothing_fresh seen [] all = refl
nothing_fresh seen (r ∷ rules) all =
    let known : has seen r ≡ true = has-from seen r (all r (Contains-cons_same r rules)) in
    let rest : fresh (r ∷ seen) rules ≡ 0 = nothing_fresh (r ∷ seen) rules (λ q c. Contains-cons_later r q seen (all q (Contains-cons_later r q rules c))) in
    rw known (omega (arith, rest))

-- an entry that was chosen is not the best again
chosen_once : (table : List Entry) (chosen : List ℕ) (n : ℕ) → IsBest table chosen n → Contains chosen n → ⊥
chosen_once table chosen n best c =
    let none : gain table chosen n ≡ 0 = nothing_fresh (rules_of table chosen) (rules_at (entry_at table n)) (λ r on. rules_of_has table chosen n r c on) in
    let some : 0 < gain table chosen n = best.positive in
    omega arith

-- the numbers of a list are different
abbrev IsEachOnce : List ℕ → Type 0
IsEachOnce ns = AllPairs (λ (a b : ℕ). a ≢ b) ns

in_front : (ns : List ℕ) (i j d : ℕ) → i < j → j < length ns → Contains (take j ns) (slice_index_or ns i d)
in_front ns i j d less inside =
    let n = slice_index_or ns i d in
    let within : i < length (take j ns) = omega (arith, length-take-le j ns (omega arith)) in
    let there : i < length ns = omega arith in
    (i, within, get_or-take j ns i n less ∙ get_or_default ns i n d there)

probes_once : (table : List Entry) (probes : List ℕ) → IsGreedy table probes → IsEachOnce probes
probes_once table probes greedy i j d less inside same =
    let at : slice_get probes j ≡ Some (slice_index_or probes j d) = slice_get-get_or probes j d inside in
    let best = greedy.each j (slice_index_or probes j d) at in
    chosen_once table (take j probes) (slice_index_or probes j d) best (subst (Contains (take j probes)) same (in_front probes i j d less inside))

-- outcomes of different entries
abbrev AreDifferent : List Outcome → Type 0
AreDifferent outcomes = AllPairs (λ (a b : Outcome). a.entry ≢ b.entry) outcomes

first_different : (f : ℕ → Outcome) → ((n : ℕ) → (f n).entry ≡ n) → (ns : List ℕ) → IsEachOnce ns → AreDifferent (map f ns)
first_different f own ns once i j d less inside same =
    let j_in : j < length ns = omega (arith, length-map ns f) in
    let i_in : i < length ns = omega arith in
    let at_i : (slice_index_or (map f ns) i d).entry ≡ slice_index_or ns i 0 = ap (λ (o : Outcome). o.entry) (get_or-map f ns i 0 d i_in) ∙ own (slice_index_or ns i 0) in
    let at_j : (slice_index_or (map f ns) j d).entry ≡ slice_index_or ns j 0 = ap (λ (o : Outcome). o.entry) (get_or-map f ns j 0 d j_in) ∙ own (slice_index_or ns j 0) in
    once i j 0 less j_in (sym at_i ∙ (same ∙ at_j))

module _ (net : Network) (hops : ℕ) (plan : Plan) (bad : List ℕ) where
  telling_different : (times : ℕ) (outcomes : List Outcome) → AreDifferent outcomes → AreDifferent (and_telling net hops plan bad times outcomes)
  telling_different zero outcomes once = once
  telling_different (suc times) outcomes once = by_next (telling_different times) (telling plan outcomes) refl
    where
      by_next : ((more : List Outcome) → AreDifferent more → AreDifferent (and_telling net hops plan bad times more)) → (next : Option ℕ) → telling plan outcomes ≡ next
          → AreDifferent (and_told net hops plan bad (and_telling net hops plan bad times) outcomes next)
      by_next go_on None is = once
      by_next go_on (Some n) is =
          let new = outcome_of net hops bad plan.table n in
          go_on (outcomes ++ new ∷ []) (all_pairs_push (λ (a b : Outcome). a.entry ≢ b.entry) outcomes new once (λ k d inside same.
          not_in (entries_of outcomes) n (telling_new plan outcomes n is)
          (subst (Contains (entries_of outcomes)) same (Contains-map (λ (o : Outcome). o.entry) outcomes (slice_index_or outcomes k d) (Contains-get_or outcomes k d inside)))))

  -- following gives outcomes of different entries of the table
  pub follow_outcomes : IsPlan net hops plan → AreOutcomes plan.table (follow net hops plan bad)
  follow_outcomes p = record {
    inside = λ o c. (follow_followed net hops plan bad p o c).inside;
    different = telling_different (length (reserved plan)) (map (outcome_of net hops bad plan.table) plan.probes)
        (first_different (outcome_of net hops bad plan.table) (λ n. refl) plan.probes (probes_once plan.table plan.probes p.probes));
  }

  -- the probes come first
  pub follow_begins : (rest : List ℕ) × (entries_of (follow net hops plan bad) ≡ plan.probes ++ rest)
  follow_begins =
      let first : List Outcome = map (outcome_of net hops bad plan.table) plan.probes in
      let entry : Outcome → ℕ = λ o. o.entry in
      let front = telling_front net hops plan bad (length (reserved plan)) first in
      (map entry front.0, ap (λ l. map entry l) front.1 ∙ (map-append entry first front.0 ∙ ap (λ l. l ++ map entry front.0) (entries_first plan.probes)))
    where
      entries_first : (ns : List ℕ) → map (λ (o : Outcome). o.entry) (map (outcome_of net hops bad plan.table) ns) ≡ ns
      entries_first [] = refl
      entries_first (n ∷ ns) = ap (λ l. n ∷ l) (entries_first ns)
