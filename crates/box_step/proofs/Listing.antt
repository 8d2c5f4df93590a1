-- The lists of the rules that precede a rule and meet it.
use Rattle.std.proofs.Common.{◌≡◌, ℕ, zero, suc, ◌+◌, ◌<◌, ◌≤◌, Bool, true, false, ◌&&◌, ◌⊎◌, inl, inr, List, [], ◌∷◌, ◌++◌, map, length, take, drop, Option, Some, None, cond, eqb, refl, sym, ap, ◌∙◌, subst, arith}
use Rattle.std.specs.Prelude.{filter, slice_get, sum_by}
use Rattle.std.specs.Option.{option_map}
use Rattle.std.specs.List.{AllPairs, Contains, find}
use Rattle.std.specs.List.Sorted.{IsStrictlyIncreasing}
use Rattle.std.proofs.lemmas.Bool.{and_parts, true≢false, eqb-true}
use Rattle.std.proofs.lemmas.Cmp.{nat_cmp_total}
use Rattle.std.proofs.lemmas.List.{map-append, take-append-drop}
use Rattle.std.proofs.lemmas.List.Elements.{Contains-append_left, Contains-push, Contains-push_cases}
use Rattle.std.proofs.lemmas.List.Kept.{AllPairs-from_increasing, AllPairs-filter}
use Rattle.std.proofs.lemmas.List.Sums.{sum_by-append}
use Rattle.std.proofs.lemmas.Map.Keys.{sorted_from_strictly_increasing}
use Rattle.std.proofs.lemmas.Option.{slice_get_within, get_or_from_slice_get, slice_get-get_or, slice_get-map}
use Rattle.list_laws.proofs.Members.{Contains-map, Contains-from_map, Contains-filter, Contains-from_filter, passes_of}
use Rattle.list_laws.proofs.Places.{take_next}
use Rattle.list_laws.proofs.Pairs.{AllPairs-map, AllPairs-from_map}
use Rattle.list_laws.proofs.SortedLists.{same_from_sorted}
use Rattle.network_model.specs.Network.{Network, Numbered, value_at, precedes}
use Rattle.network_model.specs.WellFormed.{IsWellFormed}
use Rattle.ternary_bits.specs.Pieces.{meets}
use Rattle.pattern_index.specs.Trees.{AddsAll}
use Rattle.net_types.specs.declared.rule.Rule.{Rule}
use Rattle.net_types.specs.Rules.{numbered, model_of}
use Rattle.box_step.specs.declared.lists.Listed.{Listed}
use Rattle.box_step.specs.Guides.{IsTried}
use Rattle.box_step.specs.Overlaps.{ports_meet, rules_meet, comes_first, preceding_of, AreFirst, AreFirstAt, AreFirstIn}

pub contains_at : {X : Type 0} (xs : List X) (i : ℕ) (x : X) → slice_get xs i ≡ Some x → Contains xs x
contains_at xs i x at = (i, slice_get_within xs i x at, get_or_from_slice_get xs i x x at)

pub place_of : {X : Type 0} (xs : List X) (x : X) → Contains xs x → (i : ℕ) × (slice_get xs i ≡ Some x)
place_of xs x (i, inside, at) = (i, slice_get-get_or xs i x inside ∙ ap (λ y. Some y) at)

-- ---- one more rule

module _ (xs : List Rule) (own rule : Rule) (ns : List ℕ) (so_far : AreFirst xs rule ns) where
  pushed : map numbered (xs ++ own ∷ []) ≡ map numbered xs ++ numbered own ∷ []
  pushed = map-append numbered xs (own ∷ [])

  grown : (other : Numbered) → Contains (map numbered xs) other → Contains (map numbered (xs ++ own ∷ [])) other
  grown other c = subst (λ (l : List Numbered). Contains l other) (sym pushed) (Contains-append_left (map numbered xs) (numbered own ∷ []) other c)

  cases : (other : Numbered) → Contains (map numbered (xs ++ own ∷ [])) other → Contains (map numbered xs) other ⊎ (numbered own ≡ other)
  cases other c = Contains-push_cases (map numbered xs) (numbered own) other (subst (λ (l : List Numbered). Contains l other) pushed c)

  pub first_yes : comes_first (numbered rule) (numbered own) ≡ true → AreFirst (xs ++ own ∷ []) rule (ns ++ own.id ∷ [])
  first_yes here = record {
    all = λ n c. elim (Contains-push_cases ns own.id n c) [
      | inl old ↦ let (other, (there, rest)) = so_far.all n old in (other, (grown other there, rest))
      | inr same ↦ (numbered own, (subst (λ (l : List Numbered). Contains l (numbered own)) (sym pushed) (Contains-push (map numbered xs) (numbered own)), (here, same)))
    ];
    every = λ other c first. elim (cases other c) [
      | inl old ↦ Contains-append_left ns (own.id ∷ []) other.0 (so_far.every other old first)
      | inr same ↦ subst (λ (q : Numbered). Contains (ns ++ own.id ∷ []) q.0) same (Contains-push ns own.id)
    ];
  }

  pub first_no : comes_first (numbered rule) (numbered own) ≡ false → AreFirst (xs ++ own ∷ []) rule ns
  first_no not_here = record {
    all = λ n c. let (other, (there, rest)) = so_far.all n c in (other, (grown other there, rest));
    every = λ other c first. elim (cases other c) [
      | inl old ↦ so_far.every other old first
      | inr same ↦ absurd (true≢false (sym first ∙ ap (λ (q : Numbered). comes_first (numbered rule) q) (sym same) ∙ not_here))
    ];
  }

pub first_none : (rule : Rule) (ns : List ℕ) → ns ≡ [] → AreFirst [] rule ns
first_none rule ns none = subst (λ (l : List ℕ). AreFirst [] rule l) (sym none) (record {
  all = λ n (k, l, at). absurd (omega arith);
  every = λ other (k, l, at) first. absurd (omega arith);
})

-- ---- one more place

module _ (rules : List Rule) (ps : List ℕ) (p : ℕ) (rule : Rule) (ns : List ℕ) (so_far : AreFirstAt rules ps rule ns) where
  pub at_yes : (own : Rule) → slice_get rules p ≡ Some own → comes_first (numbered rule) (numbered own) ≡ true → AreFirstAt rules (ps ++ p ∷ []) rule (ns ++ own.id ∷ [])
  at_yes own at here = record {
    all = λ n c. elim (Contains-push_cases ns own.id n c) [
      | inl before ↦ so_far.all n before
      | inr same ↦ (numbered own, (Contains-map numbered rules own (contains_at rules p own at), (here, same)))
    ];
    every = λ place other c is first. elim (Contains-push_cases ps p place c) [
      | inl before ↦ Contains-append_left ns (own.id ∷ []) other.id (so_far.every place other before is first)
      | inr same ↦
          let both : Some own ≡ Some other = sym at ∙ ap (λ k. slice_get rules k) same ∙ is in
          let one : own ≡ other = cc in
          subst (λ (q : Rule). Contains (ns ++ own.id ∷ []) q.id) one (Contains-push ns own.id)
    ];
  }

  at_other : ((own : Rule) → slice_get rules p ≡ Some own → comes_first (numbered rule) (numbered own) ≡ false) → AreFirstAt rules (ps ++ p ∷ []) rule ns
  at_other none = record {
    all = so_far.all;
    every = λ place other c is first. elim (Contains-push_cases ps p place c) [
      | inl before ↦ so_far.every place other before is first
      | inr same ↦ absurd (true≢false (sym first ∙ none other (ap (λ k. slice_get rules k) same ∙ is)))
    ];
  }

  pub at_no : (own : Rule) → slice_get rules p ≡ Some own → comes_first (numbered rule) (numbered own) ≡ false → AreFirstAt rules (ps ++ p ∷ []) rule ns
  at_no own at not_here = at_other (λ other is.
      let both : Some own ≡ Some other = sym at ∙ is in
      let one : own ≡ other = cc in
      ap (λ (q : Rule). comes_first (numbered rule) (numbered q)) (sym one) ∙ not_here)

  pub at_past : slice_get rules p ≡ None → AreFirstAt rules (ps ++ p ∷ []) rule ns
  at_past past = at_other (λ other is.
      let both : None ≡ Some other = sym past ∙ is in
      absurd (cc))

pub at_none : (rules : List Rule) (rule : Rule) (ns : List ℕ) → ns ≡ [] → AreFirstAt rules [] rule ns
at_none rules rule ns none = subst (λ (l : List ℕ). AreFirstAt rules [] rule l) (sym none) (record {
  all = λ n (k, l, at). absurd (omega arith);
  every = λ place other (k, l, at) is first. absurd (omega arith);
})

-- ---- all that an index finds

first_meets : (rule other : Rule) → comes_first (numbered rule) (numbered other) ≡ true → meets other.pattern rule.pattern ≡ true
first_meets rule other first =
    let (before, both) = and_parts (precedes (numbered other) (numbered rule)) (rules_meet (model_of other) (model_of rule)) first in
    let (at, rest) = and_parts (eqb other.«at» rule.«at») (ports_meet (model_of other).inp (model_of rule).inp && meets other.pattern rule.pattern) both in
    (and_parts (ports_meet (model_of other).inp (model_of rule).inp) (meets other.pattern rule.pattern) rest).1

pub first_all : (rules : List Rule) (rule : Rule) (old places ns : List ℕ) → AddsAll (map (λ (r : Rule). r.pattern) rules) rule.pattern old places → AreFirstAt rules places rule ns → AreFirst rules rule ns
first_all rules rule old places ns found first = record {
  all = first.all;
  every = λ other c is.
      let (r, (there, same)) = Contains-from_map numbered rules other c in
      let (k, at) = place_of rules r there in
      let comes : comes_first (numbered rule) (numbered r) ≡ true = ap (λ (q : Numbered). comes_first (numbered rule) q) same ∙ is in
      let pattern : slice_get (map (λ (q : Rule). q.pattern) rules) k ≡ Some r.pattern = slice_get-map (λ (q : Rule). q.pattern) rules k ∙ ap (option_map (λ (q : Rule). q.pattern)) at in
      subst (λ (q : Numbered). Contains ns q.0) same
      (first.every k r (found.every k r.pattern pattern (first_meets rule r comes)) at comes);
}

-- ---- the rules of a box are those of the network that a rule of the box may meet

pub first_in : (net : Network) (box : ℕ) (rules : List Rule) (rule : Rule) (ns : List ℕ) → IsTried net box rules → rule.«at» ≡ box → AreFirst rules rule ns → AreFirstIn net (numbered rule) ns
first_in net box rules rule ns tried here first = record {
  all = λ n c. let (other, (there, rest)) = first.all n c in (other, ((tried.all other there).0, rest));
  every = λ other c is. first.every other (tried.every other c (
      let (before, both) = and_parts (precedes other (numbered rule)) (rules_meet other.1 (model_of rule)) is in
      let (at, rest) = and_parts (eqb other.1.«at» rule.«at») (ports_meet other.1.inp (model_of rule).inp && meets other.1.pattern rule.pattern) both in
      eqb-true other.1.«at» rule.«at» at ∙ here
      )) is;
}

-- ---- numbers that rise

rising_from_pairs : (xs : List ℕ) → AllPairs (λ x y. x < y) xs → IsStrictlyIncreasing xs
rising_from_pairs xs pairs k inside = pairs k (k + 1) 0 (omega arith) inside

pub preceding_rises : (net : Network) → IsWellFormed net → (rule : Numbered) → IsStrictlyIncreasing (preceding_of net rule)
preceding_rises net wf rule =
    let key : Numbered → ℕ = λ other. other.0 in
    rising_from_pairs (preceding_of net rule)
    (AllPairs-map key (λ x y. x < y) (filter (comes_first rule) net.rules)
    (AllPairs-filter (λ (a b : Numbered). a.0 < b.0) (comes_first rule) net.rules
    (AllPairs-from_map key (λ x y. x < y) net.rules (AllPairs-from_increasing (map key net.rules) wf.rules))))

pub list_is : (net : Network) → IsWellFormed net → (rule : Numbered) (ns ys : List ℕ) → AreFirstIn net rule ns → IsStrictlyIncreasing ys → ((n : ℕ) → Contains ns n → Contains ys n) → ((n : ℕ) → Contains ys n → Contains ns n)
    → ys ≡ preceding_of net rule
list_is net wf rule ns ys first rises into back =
    let key : Numbered → ℕ = λ other. other.0 in
    same_from_sorted nat_cmp_total ys (preceding_of net rule) (sorted_from_strictly_increasing ys rises) (sorted_from_strictly_increasing (preceding_of net rule) (preceding_rises net wf rule))
    (λ n c.
    let (other, (there, (is, same))) = first.all n (back n c) in
    subst (λ k. Contains (preceding_of net rule) k) same (Contains-map key (filter (comes_first rule) net.rules) other (Contains-filter (comes_first rule) net.rules other there is)))
    (λ n c.
    let (other, (there, same)) = Contains-from_map key (filter (comes_first rule) net.rules) n c in
    subst (λ k. Contains ys k) same (into other.0 (first.every other (Contains-from_filter (comes_first rule) net.rules other there) (passes_of (comes_first rule) net.rules other there))))

-- ---- the lists of all rules

abbrev pub list_pair : Listed → ℕ × List ℕ
list_pair list = (list.rule, list.preceding)

abbrev pub pair_of : Network → Numbered → ℕ × List ℕ
pair_of net rule = (rule.0, preceding_of net rule)

pub pairs_more : (net : Network) (lists : List Listed) (place : ℕ) (rule : Numbered) (list : Listed) → slice_get net.rules place ≡ Some rule → list.rule ≡ rule.0 → list.preceding ≡ preceding_of net rule
    → map list_pair lists ≡ map (pair_of net) (take place net.rules) → map list_pair (lists ++ list ∷ []) ≡ map (pair_of net) (take (place + 1) net.rules)
pairs_more net lists place rule list at number same so_far =
    map-append list_pair lists (list ∷ [])
    ∙ ap (λ (ps : List (ℕ × List ℕ)). ps ++ list_pair list ∷ []) so_far
    ∙ ap (λ (p : ℕ × List ℕ). map (pair_of net) (take place net.rules) ++ p ∷ []) (ap (λ n. let p : ℕ × List ℕ = (n, list.preceding) in p) number ∙ ap (λ (ns : List ℕ). let p : ℕ × List ℕ = (rule.0, ns) in p) same)
    ∙ sym (map-append (pair_of net) (take place net.rules) (rule ∷ []))
    ∙ ap (λ (rs : List Numbered). map (pair_of net) rs) (sym (take_next net.rules place rule at))

abbrev pub members : List (ℕ × List ℕ) → ℕ
members lists = sum_by (λ (list : ℕ × List ℕ). length list.1) lists

pub members_more : (net : Network) (place : ℕ) (rule : Numbered) → slice_get net.rules place ≡ Some rule
    → members (map (pair_of net) (take (place + 1) net.rules)) ≡ members (map (pair_of net) (take place net.rules)) + length (preceding_of net rule)
members_more net place rule at =
    ap (λ (rs : List Numbered). members (map (pair_of net) rs)) (take_next net.rules place rule at)
    ∙ ap (λ (ps : List (ℕ × List ℕ)). members ps) (map-append (pair_of net) (take place net.rules) (rule ∷ []))
    ∙ sum_by-append (λ (list : ℕ × List ℕ). length list.1) (map (pair_of net) (take place net.rules)) (pair_of net rule ∷ [])
    ∙ ap (λ n. members (map (pair_of net) (take place net.rules)) + n) (omega arith)

pub members_part : (net : Network) (place : ℕ) → members (map (pair_of net) (take place net.rules)) ≤ members (map (pair_of net) net.rules)
members_part net place =
    let parts : members (map (pair_of net) net.rules) ≡ members (map (pair_of net) (take place net.rules)) + members (map (pair_of net) (drop place net.rules)) =
    ap (λ (rs : List Numbered). members (map (pair_of net) rs)) (sym (take-append-drop place net.rules))
    ∙ ap (λ (ps : List (ℕ × List ℕ)). members ps) (map-append (pair_of net) (take place net.rules) (drop place net.rules))
    ∙ sum_by-append (λ (list : ℕ × List ℕ). length list.1) (map (pair_of net) (take place net.rules)) (map (pair_of net) (drop place net.rules)) in
    omega arith

rule_of_pair : (lists : List Listed) → map (λ (p : ℕ × List ℕ). p.0) (map list_pair lists) ≡ map (λ (list : Listed). list.rule) lists
rule_of_pair [] = refl
rule_of_pair (x ∷ xs) = ap (λ (ns : List ℕ). x.rule ∷ ns) (rule_of_pair xs)

number_of_pair : (net : Network) (rules : List Numbered) → map (λ (p : ℕ × List ℕ). p.0) (map (pair_of net) rules) ≡ map (λ (r : Numbered). r.0) rules
number_of_pair net [] = refl
number_of_pair net (r ∷ rs) = ap (λ (ns : List ℕ). r.0 ∷ ns) (number_of_pair net rs)

-- the lists have the numbers of the rules
pub numbers_listed : (net : Network) (lists : List Listed) → map list_pair lists ≡ map (pair_of net) net.rules → map (λ (list : Listed). list.rule) lists ≡ map (λ (r : Numbered). r.0) net.rules
numbers_listed net lists same = sym (rule_of_pair lists) ∙ ap (λ (ps : List (ℕ × List ℕ)). map (λ (p : ℕ × List ℕ). p.0) ps) same ∙ number_of_pair net net.rules

-- ---- the list of one rule

list_first : (b : Bool) (x : Listed) (a : Option Listed) (v : Option (List ℕ)) → option_map (λ (list : Listed). list.preceding) a ≡ v → option_map (λ (list : Listed). list.preceding) (cond b (Some x) a) ≡ cond b (Some x.preceding) v
list_first true x a v e = refl
list_first false x a v e = e

pub value_listed : (lists : List Listed) (id : ℕ) → option_map (λ (list : Listed). list.preceding) (find (λ (list : Listed). eqb list.rule id) lists) ≡ value_at (map list_pair lists) id
value_listed [] id = refl
value_listed (x ∷ xs) id =
    list_first (eqb x.rule id) x (find (λ (list : Listed). eqb list.rule id) xs) (value_at (map list_pair xs) id) (value_listed xs id)

pub none_past : {X : Type 0} (xs : List X) (i : ℕ) → slice_get xs i ≡ None → length xs ≤ i
none_past [] i at = omega arith
none_past (x ∷ xs) zero at = absurd (cc)
none_past (x ∷ xs) (suc i) at = let below = none_past xs i at in omega arith
