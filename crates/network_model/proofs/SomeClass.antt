-- Each permitted header that is delivered is in a class.
use Rattle.std.specs.Prelude.{◌≡◌, ℕ, suc, ◌||◌, Bool, true, false, ◌&&◌, cond, List, [], ◌∷◌, length, Option, Some, None, All, nat_eq}
use Rattle.std.proofs.Common.{refl, sym, ap, ◌∙◌, subst}
use Rattle.std.specs.List.{AllByRecursion, list_any}
use Rattle.std.specs.Ordering.{nat_cmp, eq_by_cmp}
use Rattle.std.specs.Cmp.Lexicographic.{slice_cmp}
use Rattle.std.proofs.lemmas.Bool.{and_parts, and_from, eqb-true, eq-eqb}
use Rattle.std.proofs.lemmas.Cmp.{nat_list_cmp_total, eq_by_cmp_equiv}
use Rattle.std.proofs.lemmas.List.Elements.{recursion_from_All}
use Rattle.std.proofs.lemmas.Map.Lookups.{exact_bytes}
use Rattle.std.proofs.lemmas.Map.Views.{tells_apart}
use Rattle.network_model.specs.Bits.{Header, Pattern, letter_takes, matches}
use Rattle.network_model.specs.Network.{Network, Terminal, value_at}
use Rattle.network_model.specs.Walk.{End, Delivered, Unmatched, Dropped, Lost, Overlong}
use Rattle.network_model.specs.Classes.{terminal_permits, permits, walk_at, walk_from, Member}
use Rattle.network_model.specs.Table.{Entry, IsClass}
use Rattle.network_model.specs.WellFormed.{IsWellFormed}
use Rattle.network_model.proofs.LastRule.{same_rules_same_terminal}
use Rattle.network_model.proofs.EveryHeader.{least_header, greatest_header}

-- what holds of each value holds of the one at a number
pub at_value : {A : Type 0} (P : Option A → Type 0) → P None → (list : List (ℕ × A)) (id : ℕ) → All (λ (e : ℕ × A). P (Some e.1)) list
    → P (value_at list id)
at_value {A} P none list id h = by_cases list (recursion_from_All {X = ℕ × A} _ list h)
  where
    by_cases : (es : List (ℕ × A)) → AllByRecursion (λ (e : ℕ × A). P (Some e.1)) es → P (value_at es id)
    by_cases [] k = none
    by_cases (e ∷ es) k = elim (nat_eq e.0 id) as (λ b. P (cond b (Some e.1) (value_at es id))) [ true ↦ k.0 | false ↦ by_cases es k.1 ]

-- a header that matches a pattern is as wide
pub matching_length : (p : Pattern) (h : Header) → matches p h ≡ true → length h ≡ length p
matching_length [] [] e = refl
matching_length [] (b ∷ bs) e = cc
matching_length (l ∷ ls) [] e = cc
matching_length (l ∷ ls) (b ∷ bs) e = ap (λ n. suc n) (matching_length ls bs (and_parts (letter_takes l b) (matches ls bs) e).1)

-- a header that matches one of some patterns is as wide as they are
any_length : (h : Header) (width : ℕ) (ps : List Pattern) → AllByRecursion (λ (p : Pattern). length p ≡ width) ps
    → list_any (λ p. matches p h) ps ≡ true → length h ≡ width
any_length h width [] all e = cc
any_length h width (p ∷ ps) all e = by_test (any_length h width ps all.1) (matches p h) refl e
  where
    by_test : (list_any (λ q. matches q h) ps ≡ true → length h ≡ width) → (b : Bool) → matches p h ≡ b
        → (b || list_any (λ q. matches q h) ps) ≡ true → length h ≡ width
    by_test go_on true m w = matching_length p h m ∙ all.0
    by_test go_on false m w = go_on w

-- a permitted header is as wide as the network
pub permitted_width : (net : Network) → IsWellFormed net → (start : ℕ) (h : Header) → permits net start h ≡ true → length h ≡ net.width
permitted_width net fits start h =
    at_value (λ o. terminal_permits o h ≡ true → length h ≡ net.width) (λ (e : false ≡ true). cc) net.terminals start
    (λ k d inside e.
    any_length h net.width _ (recursion_from_All {X = Pattern} _ _ (fits.placed k d inside).permits) (and_parts _ _ (and_parts _ _ e).1).0)

-- headers with the same rules arrive at the same terminal
pub same_terminal : (net : Network) → IsWellFormed net → (hops start : ℕ) (rules : List ℕ) (to other : ℕ) (g h a b : Header)
    → Member net hops start rules to g a → Member net hops start rules other h b → to ≡ other
same_terminal net fits hops start rules to other g h a b m n =
    at (value_at net.terminals start) m.delivered n.delivered (m.travels ∙ sym n.travels)
  where
    at : (o : Option Terminal) → (walk_at net hops o g).end ≡ Delivered to a → (walk_at net hops o h).end ≡ Delivered other b
        → (walk_at net hops o g).rules ≡ (walk_at net hops o h).rules → to ≡ other
    at None d e same = cc
    at (Some t) d e same = same_rules_same_terminal net fits hops t.port t.port g h a b to other d e same

-- a header is in one class
pub one_class : (net : Network) (hops start : ℕ) (r q : List ℕ) (to other : ℕ) (h a b : Header) → Member net hops start r to h a
    → Member net hops start q other h b → (r ≡ q) × (to ≡ other)
one_class net hops start r q to other h a b m n =
    let rules : r ≡ q = sym m.travels ∙ n.travels in
    let ends : Delivered to a ≡ Delivered other b = sym m.delivered ∙ n.delivered in
    (rules, cc)

-- whether a walk ends at a terminal
abbrev ends_at : ℕ → End → Bool
ends_at to (Delivered terminal header) = nat_eq terminal to
ends_at to Unmatched = false
ends_at to (Dropped rule) = false
ends_at to (Lost port) = false
ends_at to Overlong = false

-- a walk that ends at a terminal is delivered there
ends_at_means : (to : ℕ) (end : End) → ends_at to end ≡ true → (arrives : Header) × (end ≡ Delivered to arrives)
ends_at_means to (Delivered terminal header) e = (header, ap (λ t. Delivered t header) (eqb-true terminal to e))
ends_at_means to Unmatched e = absurd (cc)
ends_at_means to (Dropped rule) e = absurd (cc)
ends_at_means to (Lost port) e = absurd (cc)
ends_at_means to Overlong e = absurd (cc)

-- whether a header is in the class with these terminals and rules
abbrev is_in : Network → ℕ → ℕ → List ℕ → ℕ → Header → Bool
is_in net hops start rules to h =
    permits net start h && (eq_by_cmp (slice_cmp nat_cmp) (walk_from net hops start h).rules rules && ends_at to (walk_from net hops start h).end)

-- a member passes
in_from_member : (net : Network) (hops start : ℕ) (rules : List ℕ) (to : ℕ) (h a : Header) → Member net hops start rules to h a
    → is_in net hops start rules to h ≡ true
in_from_member net hops start rules to h a m =
    and_from _ _ m.permitted (and_from _ _
    (subst (λ w. eq_by_cmp (slice_cmp nat_cmp) w rules ≡ true) (sym m.travels) ((eq_by_cmp_equiv nat_list_cmp_total).refl rules))
    (subst (λ w. ends_at to w ≡ true) (sym m.delivered) (eq-eqb to to refl)))

-- what passes is a member
member_from_in : (net : Network) (hops start : ℕ) (rules : List ℕ) (to : ℕ) (h : Header) → is_in net hops start rules to h ≡ true
    → (arrives : Header) × Member net hops start rules to h arrives
member_from_in net hops start rules to h e =
    let parts = and_parts (permits net start h) _ e in
    let rest = and_parts (eq_by_cmp (slice_cmp nat_cmp) (walk_from net hops start h).rules rules) _ parts.1 in
    let end = ends_at_means to (walk_from net hops start h).end rest.1 in
    (end.0, record { permitted = parts.0; travels = tells_apart exact_bytes _ _ rest.0; delivered = end.1 })

-- a header that is delivered is in the class of an entry
pub class_of : (net : Network) → IsWellFormed net → (hops start : ℕ) (rules : List ℕ) (to : ℕ) (h a : Header) → Member net hops start rules to h a
    → (e : Entry) × IsClass net hops e × (e.from ≡ start) × (e.to ≡ to) × (e.rules ≡ rules)
class_of net fits hops start rules to h a m =
    let test : Header → Bool = is_in net hops start rules to in
    let wide : length h ≡ net.width = permitted_width net fits start h m.permitted in
    let yes : test h ≡ true = in_from_member net hops start rules to h a m in
    let low = least_header net.width test h wide yes in
    let high = greatest_header net.width test h wide yes in
    let first = member_from_in net hops start rules to low.0 low.1.passes in
    let last = member_from_in net hops start rules to high.0 high.1.passes in (
      record { from = start; to = to; rules = rules; least = low.0; greatest = high.0; arrives = first.0 },
      record {
        least = first.1;
        greatest = last;
        between = λ g b n.
            let within : length g ≡ net.width = permitted_width net fits start g n.permitted in
            let passes : test g ≡ true = in_from_member net hops start rules to g b n in
            (low.1.least g within passes, high.1.least g within passes);
      },
      refl,
      refl,
      refl,
    )
