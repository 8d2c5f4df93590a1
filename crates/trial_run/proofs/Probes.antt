-- Probes in order of choice.
use Rattle.std.specs.Prelude.{◌≡◌, ◌≢◌, ℕ, zero, suc, ◌+◌, ◌<◌, ◌≤◌, List, [], ◌∷◌, ◌++◌, length, map, take, slice_get, slice_index_or, Option, None, Some, Contains, AllPairs}
use Rattle.std.proofs.Common.{refl, sym, ap, ◌∙◌, subst, arith}
use Rattle.std.proofs.lemmas.List.{length-map, length-append, length-take-le, get_or-take, get_or-map, get_or_default}
use Rattle.std.proofs.lemmas.Option.{slice_get_within, slice_get-get_or, get_or_from_slice_get}
use Rattle.suspect_book.proofs.Marking.{item_taken}
use Rattle.network_model.specs.Network.{Network}
use Rattle.network_model.specs.Plan.{Plan, IsPlan}
use Rattle.fault_model.specs.Outcomes.{Outcome, entries_of}
use Rattle.fault_model.specs.Follow.{outcome_of, follow}
use Rattle.fault_model.proofs.Different.{follow_outcomes, follow_begins}

-- the entries of the probes' outcomes
pub entries_again : (net : Network) (hops : ℕ) (plan : Plan) (bad ns : List ℕ) → entries_of (map (outcome_of net hops bad plan.table) ns) ≡ ns
entries_again net hops plan bad [] = refl
entries_again net hops plan bad (n ∷ ns) = ap (λ (l : List ℕ). n ∷ l) (entries_again net hops plan bad ns)

-- what is in front of a list is in front of a longer one
get_front : (ns rest : List ℕ) (i n : ℕ) → slice_get ns i ≡ Some n → slice_get (ns ++ rest) i ≡ Some n
get_front [] rest i n at = cc
get_front (m ∷ ns) rest zero n at = at
get_front (m ∷ ns) rest (suc i) n at = get_front ns rest i n at

get_entry : (os : List Outcome) (i n : ℕ) (d : Outcome) → slice_get (entries_of os) i ≡ Some n → (i < length os) × ((slice_index_or os i d).entry ≡ n)
get_entry [] i n d at = cc
get_entry (o ∷ os) zero n d at = (omega arith, cc)
get_entry (o ∷ os) (suc i) n d at = let later = get_entry os i n d at in (omega (arith, later.0), later.1)

get_taken : (ns : List ℕ) (i j n : ℕ) → slice_get (take i ns) j ≡ Some n → (j < i) × (slice_get ns j ≡ Some n)
get_taken [] zero j n at = cc
get_taken [] (suc i) j n at = cc
get_taken (m ∷ ns) zero j n at = cc
get_taken (m ∷ ns) (suc i) zero n at = (omega arith, at)
get_taken (m ∷ ns) (suc i) (suc j) n at = let later = get_taken ns i j n at in (omega (arith, later.0), later.1)

place_of : (ns : List ℕ) (n : ℕ) → Contains ns n → (j : ℕ) × (slice_get ns j ≡ Some n)
place_of ns n (j, inside, at) = (j, slice_get-get_or ns j n inside ∙ ap Some at)

-- a probe is none of those before it
pub probe_new : (net : Network) (hops : ℕ) (plan : Plan) → IsPlan net hops plan → (i n : ℕ) → slice_get plan.probes i ≡ Some n → Contains (take i plan.probes) n → ⊥
probe_new net hops plan is i n at c =
    let os : List Outcome = follow net hops plan [] in
    let begins = follow_begins net hops plan [] in
    let d : Outcome = outcome_of net hops [] plan.table 0 in
    let early = place_of (take i plan.probes) n c in
    let j : ℕ = early.0 in
    let before = get_taken plan.probes i j n early.1 in
    let at_i : slice_get (entries_of os) i ≡ Some n = ap (λ (l : List ℕ). slice_get l i) begins.1 ∙ get_front plan.probes begins.0 i n at in
    let at_j : slice_get (entries_of os) j ≡ Some n = ap (λ (l : List ℕ). slice_get l j) begins.1 ∙ get_front plan.probes begins.0 j n before.1 in
    let one = get_entry os i n d at_i in
    let other = get_entry os j n d at_j in
    (follow_outcomes net hops plan [] is).different j i d before.0 one.0 (other.1 ∙ sym one.1)

-- one probe more
pub taken_more : (probes before after : List ℕ) (i n : ℕ) → after ≡ before ++ n ∷ [] → before ≡ take i probes → slice_get probes i ≡ Some n → after ≡ take (i + 1) probes
taken_more probes before after i n more so_far at =
    more ∙ (ap (λ (l : List ℕ). l ++ n ∷ []) so_far ∙ sym (item_taken probes i n (slice_get_within probes i n at) (sym (get_or_from_slice_get probes i n n at))))
