-- What is found from the firsts and copied for their twins is what is found from all.
use Rattle.std.specs.Prelude.{IsTrue, ◌↔◌}
use Rattle.std.proofs.Common.{◌≡◌, ◌≢◌, ◌⊎◌, ℕ, suc, cond, eqb, ◌-◌, ◌^◌, ◌<◌, Bool, true, false, List, [], ◌∷◌, ◌++◌, length, min, get_or, Some, refl, sym, ap, ◌∙◌, subst, ⊎_elim, arith, inl, inr}
use Rattle.std.specs.List.{All, AllPairs, Contains, filter, list_any}
use Rattle.std.specs.Ordering.{nat_cmp, ordering_then}
use Rattle.std.specs.Cmp.{nat_cmp_total, tied_itself}
use Rattle.std.proofs.lemmas.Cmp.{nat_list_cmp_total}
use Rattle.std.specs.Cmp.Lexicographic.{slice_cmp}
use Rattle.std.specs.declared.cmp.Ordering.TheVariants.{Equal}
use Rattle.std.proofs.lemmas.Bool.{eqb-true, eq-eqb}
use Rattle.std.proofs.lemmas.Map.Lookups.{exact_unsigned, exact_bytes}
use Rattle.std.proofs.lemmas.List.Elements.{All-append, All-contains, All-filter, Contains-append_left, Contains-append_right}
use Rattle.std.proofs.lemmas.List.Kept.{AllPairs-filter}
use Rattle.list_laws.proofs.Members.{Contains-nil, Contains-cons_cases, Contains-cons_same, Contains-cons_later, Contains-filter, Contains-from_filter, passes_of}
use Rattle.list_laws.proofs.Orders.{then_first, then_second}
use Rattle.list_laws.proofs.Pairs.{AllPairs-append}
use Rattle.network_model.specs.Bits.{Header}
use Rattle.network_model.specs.Network.{Network, value_at}
use Rattle.network_model.specs.Classes.{Member}
use Rattle.network_model.specs.Prefixes.{IsPrefix, IsPrefixNumber, Touches}
use Rattle.network_model.specs.Table.{Entry, IsClass, AreApart, HasMore, entry_cmp}
use Rattle.network_model.specs.WellFormed.{IsWellFormed}
use Rattle.twin_laws.specs.Twins.{AreTwins, as_from}
use Rattle.twin_laws.specs.Shared.{spread, start_of, entries_of_twins, is_first, AreTwinned, IsWeighed, IsTwinBox}
use Rattle.twin_laws.proofs.Twins.{swapped, member_of_twin, prefix_of_twin, touches_of_twin, class_of_twin}
use Rattle.twin_laws.proofs.Spreads.{spread_contains, spread_from, spread_all, spread_apart}
use Rattle.twin_laws.proofs.Weighed.{total_spread}

-- some of the pairs
pub twinned_part : (net : Network) (terminals : List ℕ) (twins : List (ℕ × ℕ)) (test : ℕ × ℕ → Bool) → AreTwinned net terminals twins → AreTwinned net terminals (filter test twins)
twinned_part net terminals twins test is = record {
  alike = All-filter test (λ (t : ℕ × ℕ). AreTwins net t.0 t.1) twins is.alike;
  first_there = All-filter test (λ (t : ℕ × ℕ). Contains terminals t.0) twins is.first_there;
  other_there = All-filter test (λ (t : ℕ × ℕ). Contains terminals t.1) twins is.other_there;
  once = AllPairs-filter (λ (t u : ℕ × ℕ). t.1 ≢ u.1) test twins is.once;
  excluded = λ t u in_t in_u. is.excluded t u (Contains-from_filter test twins t in_t) (Contains-from_filter test twins u in_u);
}

abbrev IsOther : List (ℕ × ℕ) → ℕ → Type 0
IsOther twins terminal = (t : ℕ × ℕ) × Contains twins t × (t.1 ≡ terminal)

-- a terminal is a twin of another, or a first
other_cases : (twins : List (ℕ × ℕ)) (terminal : ℕ) → IsOther twins terminal ⊎ (is_first twins terminal ≡ true)
other_cases [] terminal = inr refl
other_cases (t ∷ ts) terminal = by_test (nat_eq' t) refl (other_cases ts terminal)
  where
    nat_eq' : ℕ × ℕ → Bool
    nat_eq' u = Rattle.std.specs.Prelude.nat_eq u.1 terminal

    by_test : (b : Bool) → nat_eq' t ≡ b → IsOther ts terminal ⊎ (is_first ts terminal ≡ true) → IsOther (t ∷ ts) terminal ⊎ (is_first (t ∷ ts) terminal ≡ true)
    by_test true is rest = inl (t, Contains-cons_same t ts, eqb-true t.1 terminal is)
    by_test false is rest = ⊎_elim (λ o. inl (o.0, Contains-cons_later t o.0 ts o.1, o.2)) (λ first. inr (rw is first)) rest

-- a twin is no first
not_first : (twins : List (ℕ × ℕ)) (t : ℕ × ℕ) → Contains twins t → is_first twins t.1 ≡ false
not_first [] t there = absurd (Contains-nil t there)
not_first (u ∷ us) t there = ⊎_elim
    (λ (same : u ≡ t). rw (eq-eqb u.1 t.1 (ap (λ (p : ℕ × ℕ). p.1) same)) refl)
    (λ (later : Contains us t). by_test (Rattle.std.specs.Prelude.nat_eq u.1 t.1) refl (not_first us t later))
    (Contains-cons_cases u t us there)
  where
    by_test : (b : Bool) → Rattle.std.specs.Prelude.nat_eq u.1 t.1 ≡ b → is_first us t.1 ≡ false → is_first (u ∷ us) t.1 ≡ false
    by_test true is rest = rw is refl
    by_test false is rest = rw is rest

-- entries that tie begin at one terminal and have the same rules
tied_starts : (a b : Entry) → entry_cmp a b ≡ Equal → a.«from» ≡ b.«from»
tied_starts a b tied = exact_unsigned a.«from» b.«from» (then_first (nat_cmp a.«from» b.«from») (slice_cmp nat_cmp a.rules b.rules) tied)

tied_rules : (a b : Entry) → entry_cmp a b ≡ Equal → a.rules ≡ b.rules
tied_rules a b tied = exact_bytes a.rules b.rules (then_second (nat_cmp a.«from» b.«from») (slice_cmp nat_cmp a.rules b.rules) tied)

-- a value at a number stands there
value_stands : {A : Type 0} (list : List (ℕ × A)) (id : ℕ) (v : A) → value_at list id ≡ Some v → Contains list (id, v)
value_stands [] id v e = cc
value_stands {A} (x ∷ xs) id v e = by_test (value_stands xs id v) (eqb x.0 id) refl e
  where
    by_test : (value_at xs id ≡ Some v → Contains xs (id, v)) → (b : Bool) → eqb x.0 id ≡ b → cond b (Some x.1) (value_at xs id) ≡ Some v
        → Contains (x ∷ xs) (id, v)
    by_test go_on true is f =
        let same : x.1 ≡ v = cc in
        let number : x.0 ≡ id = eqb-true x.0 id is in
        (0, omega arith, λ i. (number i, same i))
    by_test go_on false is f = let later = go_on f in (suc later.0, omega arith, later.2)

abbrev firsts_of : List ℕ → List (ℕ × ℕ) → List ℕ
firsts_of all twins = filter (is_first twins) all

module _ (net : Network) (all : List ℕ) (twins : List (ℕ × ℕ)) (is : AreTwinned net all twins) where
  abbrev firsts : List ℕ
  firsts = firsts_of all twins

  twins_at : (t : ℕ × ℕ) → Contains twins t → AreTwins net t.0 t.1
  twins_at t there = All-contains (λ (u : ℕ × ℕ). AreTwins net u.0 u.1) twins t is.alike there

  -- a first is one of those that are searched
  first_of_pair : (t : ℕ × ℕ) → Contains twins t → Contains firsts t.0
  first_of_pair t there =
      Contains-filter (is_first twins) all t.0 (All-contains (λ (u : ℕ × ℕ). Contains all u.0) twins t is.first_there there)
      (⊎_elim (λ o. absurd (is.excluded t o.0 there o.1 (sym o.2))) (λ first. first) (other_cases twins t.0))

  one_of_both : (terminal : ℕ) → Contains all terminal → IsOther twins terminal ⊎ Contains firsts terminal
  one_of_both terminal there = ⊎_elim (λ o. inl o) (λ first. inr (Contains-filter (is_first twins) all terminal there first)) (other_cases twins terminal)

  first_all : (terminal : ℕ) → Contains firsts terminal → Contains all terminal
  first_all terminal there = Contains-from_filter (is_first twins) all terminal there

  other_all : (t : ℕ × ℕ) → Contains twins t → Contains all t.1
  other_all t there = All-contains (λ (u : ℕ × ℕ). Contains all u.1) twins t is.other_there there

  other_not_first : (t : ℕ × ℕ) → Contains twins t → Contains firsts t.1 → ⊥
  other_not_first t there first = let no = not_first twins t there in let yes = passes_of (is_first twins) all t.1 first in cc

  -- one twin stands in one pair
  one_pair : (t u : ℕ × ℕ) → Contains twins t → Contains twins u → t.1 ≡ u.1 → t ≡ u
  one_pair t u in_t in_u same = by_place in_t.0 in_u.0 in_t.1 in_u.1 in_t.2 in_u.2 (order in_t.0 in_u.0)
    where
      order : (m n : ℕ) → (m ≡ n) ⊎ ((m < n) ⊎ (n < m))
      order m n = grind arith

      by_place : (m n : ℕ) → m < length twins → n < length twins → get_or twins m t ≡ t → get_or twins n u ≡ u → (m ≡ n) ⊎ ((m < n) ⊎ (n < m)) → t ≡ u
      by_place m n in_m in_n at_m at_n o = ⊎_elim
          (λ (here : m ≡ n). sym at_m ∙ (get_same m in_m t u ∙ (ap (λ k. get_or twins k u) here ∙ at_n)))
          (λ apart. ⊎_elim
          (λ (less : m < n). absurd (is.once m n t less in_n (ap (λ (p : ℕ × ℕ). p.1) at_m ∙ (same ∙ ap (λ (p : ℕ × ℕ). p.1) (sym at_n ∙ get_same n in_n u t)))))
          (λ (more : n < m). absurd (is.once n m t more in_m (ap (λ (p : ℕ × ℕ). p.1) (get_same n in_n t u ∙ at_n) ∙ (sym same ∙ ap (λ (p : ℕ × ℕ). p.1) (sym at_m)))))
          apart)
          o
        where
          get_same : (k : ℕ) → k < length twins → (c d : ℕ × ℕ) → get_or twins k c ≡ get_or twins k d
          get_same k inside c d = Rattle.std.proofs.lemmas.List.get_or_default twins k c d inside

  -- ---- entries

  module _ (hops : ℕ) (entries : List Entry) (each : All (λ (e : Entry). Contains firsts e.«from») entries) (apart : AreApart entries) (classes : All (IsClass net hops) entries)
      (complete : (start to : ℕ) (rules : List ℕ) (header arrives : Header) → Contains firsts start → Member net hops start rules to header arrives
      → (e : Entry) × Contains entries e × (e.«from» ≡ start) × (e.to ≡ to) × (e.rules ≡ rules)) where
    abbrev added : List Entry
    added = entries_of_twins twins entries

    abbrev together : List Entry
    together = added ++ entries

    pub each_of_all : All (λ (e : Entry). Contains all e.«from») together
    each_of_all = All-append (λ (e : Entry). Contains all e.«from») added entries
        (spread_all start_of as_from twins (λ (e : Entry). Contains all e.«from») entries
        (λ y c. subst (λ (e : Entry). Contains all e.«from») (sym c.is) (other_all c.twin c.twin_there)))
        (λ k d inside. first_all (get_or entries k d).«from» (each k d inside))

    tie_back : (x y : Entry) (t u : ℕ × ℕ) → Contains twins t → Contains twins u → t.0 ≡ x.«from» → u.0 ≡ y.«from» → entry_cmp x y ≢ Equal
        → entry_cmp (as_from t.1 x) (as_from u.1 y) ≢ Equal
    tie_back x y t u in_t in_u led_t led_u differ tied =
        let starts : t.1 ≡ u.1 = tied_starts (as_from t.1 x) (as_from u.1 y) tied in
        let rules : x.rules ≡ y.rules = tied_rules (as_from t.1 x) (as_from u.1 y) tied in
        let one : t ≡ u = one_pair t u in_t in_u starts in
        let froms : x.«from» ≡ y.«from» = sym led_t ∙ (ap (λ (p : ℕ × ℕ). p.0) one ∙ led_u) in
        differ ((λ i. entry_cmp (record x { «from» = froms i; rules = rules i }) y) ∙ tie y)
      where
        tie : (y : Entry) → entry_cmp y y ≡ Equal
        tie y = rw (tied_itself nat_cmp_total y.«from», tied_itself nat_list_cmp_total y.rules) refl

    pub apart_of_all : AreApart together
    apart_of_all = AllPairs-append (λ (a b : Entry). entry_cmp a b ≢ Equal) added entries
        (spread_apart start_of as_from twins (λ (a b : Entry). entry_cmp a b ≢ Equal) entries
        (λ x t u differ tied. differ (tied_starts (as_from t.1 x) (as_from u.1 x) tied))
        tie_back is.once apart)
        apart
        (λ a b in_a in_b tied.
        let c = spread_from start_of as_from twins entries a in_a in
        let first : Contains firsts b.«from» = All-contains (λ (e : Entry). Contains firsts e.«from») entries b each in_b in
        let same : c.twin.1 ≡ b.«from» = ap start_of (sym c.is) ∙ tied_starts a b tied in
        other_not_first c.twin c.twin_there (subst (λ s. Contains firsts s) (sym same) first))

    pub classes_of_all : All (IsClass net hops) together
    classes_of_all = All-append (IsClass net hops) added entries
        (spread_all start_of as_from twins (IsClass net hops) entries
        (λ y c.
        let twin : AreTwins net c.source.«from» c.twin.1 = subst (λ s. AreTwins net s c.twin.1) c.led (twins_at c.twin c.twin_there) in
        subst (IsClass net hops) (sym c.is)
        (class_of_twin net hops c.twin.1 c.source twin (All-contains (IsClass net hops) entries c.source classes c.source_there))))
        classes

    pub complete_of_all : (start to : ℕ) (rules : List ℕ) (header arrives : Header) → Contains all start → Member net hops start rules to header arrives
        → (e : Entry) × Contains together e × (e.«from» ≡ start) × (e.to ≡ to) × (e.rules ≡ rules)
    complete_of_all start to rules header arrives there m = ⊎_elim
        (λ (o : IsOther twins start).
        let t : ℕ × ℕ = o.0 in
        let twin : AreTwins net start t.0 = subst (λ s. AreTwins net s t.0) o.2 (swapped net t.0 t.1 (twins_at t o.1)) in
        let e = complete t.0 to rules header arrives (first_of_pair t o.1) (member_of_twin net hops start t.0 to rules header arrives twin m) in
        (as_from t.1 e.0, Contains-append_left added entries (as_from t.1 e.0) (spread_contains start_of as_from twins entries e.0 t e.1 o.1 (sym e.2)), o.2, e.3, e.4))
        (λ first. let e = complete start to rules header arrives first m in (e.0, Contains-append_right added entries e.0 e.1, e.2, e.3, e.4))
        (one_of_both start there)

    pub more_of_all : (limit : ℕ) → limit < length together → HasMore net hops (λ start rules. Contains all start) limit
    more_of_all limit more = record { entries = together; each = each_of_all; apart = apart_of_all; classes = classes_of_all; more = more }

  -- ---- prefixes

  abbrev first_of_prefix : ℕ × List ℕ → ℕ
  first_of_prefix p = p.0

  abbrev put_prefix : ℕ → ℕ × List ℕ → ℕ × List ℕ
  put_prefix s p = (s, p.1)

  pub number_of_all : (hops number : ℕ) → IsWeighed net hops (λ start rules. Contains firsts start) twins number → IsPrefixNumber net hops (λ start rules. Contains all start) number
  number_of_all hops number weighed = record {
    pairs = added ++ pairs;
    are = record {
      different = AllPairs-append (λ (a b : ℕ × List ℕ). a ≢ b) added pairs
          (spread_apart first_of_prefix put_prefix twins (λ (a b : ℕ × List ℕ). a ≢ b) pairs
          (λ x t u differ same. differ (ap (λ (p : ℕ × List ℕ). p.0) same))
          (λ x y t u in_t in_u led_t led_u differ same.
          let one : t ≡ u = one_pair t u in_t in_u (ap (λ (p : ℕ × List ℕ). p.0) same) in
          let starts : x.0 ≡ y.0 = sym led_t ∙ (ap (λ (p : ℕ × ℕ). p.0) one ∙ led_u) in
          let rules : x.1 ≡ y.1 = ap (λ (p : ℕ × List ℕ). p.1) same in
          differ (λ i. (starts i, rules i)))
          is.once weighed.are.different)
          weighed.are.different
          (λ a b in_a in_b same.
          let c = spread_from first_of_prefix put_prefix twins pairs a in_a in
          let first : Contains firsts b.0 = (All-contains Sound pairs b weighed.are.sound in_b).0 in
          let here : c.twin.1 ≡ b.0 = ap (λ (p : ℕ × List ℕ). p.0) (sym c.is ∙ same) in
          other_not_first c.twin c.twin_there (subst (λ s. Contains firsts s) (sym here) first));
      sound = All-append SoundOfAll added pairs
          (spread_all first_of_prefix put_prefix twins SoundOfAll pairs
          (λ y c.
          let twin : AreTwins net c.source.0 c.twin.1 = subst (λ s. AreTwins net s c.twin.1) c.led (twins_at c.twin c.twin_there) in
          subst SoundOfAll (sym c.is)
          (other_all c.twin c.twin_there, prefix_of_twin net hops c.source.0 c.twin.1 c.source.1 twin (All-contains Sound pairs c.source weighed.are.sound c.source_there).1)))
          (λ k d inside. let s = weighed.are.sound k d inside in (first_all (get_or pairs k d).0 s.0, s.1));
      complete = λ start rules there begins. ⊎_elim
          (λ (o : IsOther twins start).
          let t : ℕ × ℕ = o.0 in
          let twin : AreTwins net start t.0 = subst (λ s. AreTwins net s t.0) o.2 (swapped net t.0 t.1 (twins_at t o.1)) in
          let source : Contains pairs (t.0, rules) = weighed.are.complete t.0 rules (first_of_pair t o.1) (prefix_of_twin net hops start t.0 rules twin begins) in
          let copy : Contains added (t.1, rules) = spread_contains first_of_prefix put_prefix twins pairs (t.0, rules) t source o.1 refl in
          Contains-append_left added pairs (start, rules) (subst (λ s. Contains added (s, rules)) o.2 copy))
          (λ first. Contains-append_right added pairs (start, rules) (weighed.are.complete start rules first begins))
          (one_of_both start there);
    };
    counted = weighed.weighed ∙ ap (λ n. min n (2 ^ 64 - 1)) (total_spread twins pairs);
  }
    where
      pairs : List (ℕ × List ℕ)
      pairs = weighed.pairs

      added : List (ℕ × List ℕ)
      added = spread first_of_prefix put_prefix twins weighed.pairs

      Sound : ℕ × List ℕ → Type 0
      Sound p = Contains firsts p.0 × IsPrefix net hops p.0 p.1

      SoundOfAll : ℕ × List ℕ → Type 0
      SoundOfAll p = Contains all p.0 × IsPrefix net hops p.0 p.1

  -- ---- boxes

  pub touched_of_all : IsWellFormed net → (hops : ℕ) (before after : List (ℕ × ℕ))
      → ((terminal box : ℕ) → Contains before (terminal, box) ↔ (Contains firsts terminal × Touches net hops terminal box))
      → ((terminal box : ℕ) → Contains after (terminal, box) ↔ (Contains before (terminal, box) ⊎ (IsTwinBox twins before terminal box × Contains net.boxes box)))
      → (terminal box : ℕ) → Contains after (terminal, box) ↔ (Contains all terminal × Touches net hops terminal box)
  touched_of_all fits hops before after was now terminal box = (
    (λ there. ⊎_elim
        (λ old. let w = (was terminal box).0 old in (first_all terminal w.0, w.1))
        (λ more.
        let t : ℕ × ℕ = (more.0.first, terminal) in
        let w = (was more.0.first box).0 more.0.comes in
        (other_all t more.0.led, touches_of_twin net hops more.0.first terminal box (twins_at t more.0.led) w.1))
        ((now terminal box).0 there)),
    (λ there. (now terminal box).1 (⊎_elim
        (λ (o : IsOther twins terminal).
        let t : ℕ × ℕ = o.0 in
        let twin : AreTwins net terminal t.0 = subst (λ s. AreTwins net s t.0) o.2 (swapped net t.0 t.1 (twins_at t o.1)) in
        let comes : Contains before (t.0, box) = (was t.0 box).1 (first_of_pair t o.1, touches_of_twin net hops terminal t.0 box twin there.1) in
        inr (record { first = t.0; led = subst (λ s. Contains twins (t.0, s)) o.2 o.1; comes = comes }, box_there there.1))
        (λ first. inl ((was terminal box).1 (first, there.1)))
        (one_of_both terminal there.0))),
  )
    where
      box_there : Touches net hops terminal box → Contains net.boxes box
      box_there t =
          let there : Contains net.ports (t.place.port, box) = value_stands net.ports t.place.port box t.inside in
          All-contains (λ (p : ℕ × ℕ). Contains net.boxes p.1) net.ports (t.place.port, box) fits.homes there
