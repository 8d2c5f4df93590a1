-- A rule takes the same headers whether all that earlier rules took is taken out of the set, or what those of its list took.
use Rattle.std.proofs.Common.{IsTrue, ◌≡◌, ℕ, zero, suc, ◌+◌, ◌<◌, Bool, true, false, not, ◌&&◌, ◌||◌, inl, inr, List, [], ◌∷◌, ◌++◌, map, length, get_or, Option, Some, None, eqb, cond, refl, sym, ap, ◌∙◌, subst, arith}
use Rattle.std.specs.Prelude.{slice_get, filter, IfNone}
use Rattle.std.specs.List.{All, Contains}
use Rattle.std.specs.Ordering.{nat_cmp}
use Rattle.std.specs.BTreeMap.{get}
use Rattle.std.proofs.lemmas.Bool.{and_parts, and_from, cases_Bool, false≢true, true≢false, eqb-true, eqb-false, eq-eqb}
use Rattle.std.proofs.lemmas.List.Elements.{All-contains, Contains-get_or, Contains-append_left, Contains-push, Contains-push_cases}
use Rattle.std.proofs.lemmas.Option.{slice_get_within, get_or_from_slice_get}
use Rattle.list_laws.proofs.Members.{Contains-map, Contains-filter}
use Rattle.model_laws.proofs.Precedence.{not_itself}
use Rattle.net_types.proofs.Rows.{one_place}
use Rattle.network_model.specs.Bits.{Header, Letter, Bit, Any, Pattern, matches, letter_takes}
use Rattle.network_model.specs.Rewrites.{Rewrite, rewritten}
use Rattle.network_model.specs.Network.{Network, Numbered, InPort, AnyPort, OnePort, Action, Drop, Out, value_at, port_fits, precedes}
use Rattle.network_model.specs.WellFormed.{IsWellFormed, FitsRule, FitsOut}
use Rattle.ternary_bits.specs.Pieces.{meets, letters_meet}
use Rattle.header_sets.specs.Spaces.{SpaceValue, any_matches, holds}
use Rattle.net_types.specs.declared.rule.Rule.{Rule}
use Rattle.net_types.specs.Rules.{numbered, model_of, in_port, IsAsWide}
use Rattle.box_step.specs.declared.branches.Branch.{Branch}
use Rattle.box_step.specs.declared.overlaps.Overlaps.{Overlaps}
use Rattle.box_step.specs.declared.taken.Taken.{Taken}
use Rattle.box_step.specs.Guides.{IsTried}
use Rattle.box_step.specs.Overlaps.{ports_meet, rules_meet, comes_first, preceding_of, listed, IsOverlaps}
use Rattle.box_step.specs.Taking.{takes_sent, is_left, IsTaken, IsKept, Recalls}
use Rattle.box_step.proofs.Listing.{pair_of, contains_at}
use Rattle.box_step.proofs.PassingBy.{rising_below}

-- ---- two patterns that match one header meet

letter_both : (l o : Letter) (b : Bool) → letter_takes l b ≡ true → letter_takes o b ≡ true → letters_meet l o ≡ true
letter_both Any o b e f = refl
letter_both (Bit a) Any b e f = refl
letter_both (Bit true) (Bit true) b e f = refl
letter_both (Bit false) (Bit false) b e f = refl
letter_both (Bit true) (Bit false) true e f = absurd (false≢true f)
letter_both (Bit true) (Bit false) false e f = absurd (false≢true e)
letter_both (Bit false) (Bit true) true e f = absurd (false≢true e)
letter_both (Bit false) (Bit true) false e f = absurd (false≢true f)

both_meet : (p q : Pattern) (h : Header) → matches p h ≡ true → matches q h ≡ true → meets p q ≡ true
both_meet [] [] h e f = refl
both_meet [] (o ∷ os) [] e f = absurd (false≢true f)
both_meet [] (o ∷ os) (b ∷ bs) e f = absurd (false≢true e)
both_meet (l ∷ ls) [] [] e f = absurd (false≢true e)
both_meet (l ∷ ls) [] (b ∷ bs) e f = absurd (false≢true f)
both_meet (l ∷ ls) (o ∷ os) [] e f = absurd (false≢true e)
both_meet (l ∷ ls) (o ∷ os) (b ∷ bs) e f =
    let p = and_parts (letter_takes l b) (matches ls bs) e in
    let q = and_parts (letter_takes o b) (matches os bs) f in
    and_from (letters_meet l o) (meets ls os) (letter_both l o b p.0 q.0) (both_meet ls os bs p.1 q.1)

both_fit : (a b : InPort) (port : ℕ) → port_fits a port ≡ true → port_fits b port ≡ true → ports_meet a b ≡ true
both_fit AnyPort b port e f = refl
both_fit (OnePort x) AnyPort port e f = refl
both_fit (OnePort x) (OnePort y) port e f = eq-eqb x y (eqb-true x port e ∙ sym (eqb-true y port f))

-- ---- lists of patterns

any_member : (ps : List Pattern) (h : Header) → any_matches ps h ≡ true → (s : Pattern) × (Contains ps s × (matches s h ≡ true))
any_member [] h e = absurd (false≢true e)
any_member (p ∷ ps) h e = elim (cases_Bool (matches p h)) [
  | inl fits ↦ (p, ((zero, omega arith, refl), fits))
  | inr fails ↦
      let (s, (c, m)) = any_member ps h (sym (ap (λ b. b || any_matches ps h) fails) ∙ e) in
      let (k, l, at) = c in
      (s, ((suc k, omega arith, at), m))
]

or_true : (b : Bool) → (b || true) ≡ true
or_true true = refl
or_true false = refl

member_any : (ps : List Pattern) (h : Header) (s : Pattern) (k : ℕ) → k < length ps → get_or ps k s ≡ s → matches s h ≡ true → any_matches ps h ≡ true
member_any [] h s k l at m = absurd (omega arith)
member_any (p ∷ ps) h s zero l at m = ap (λ b. b || any_matches ps h) (ap (λ (q : Pattern). matches q h) at ∙ m)
member_any (p ∷ ps) h s (suc k) l at m = ap (λ b. matches p h || b) (member_any ps h s k (omega arith) at m) ∙ or_true (matches p h)

same_truth : (a b : Bool) → (a ≡ true → b ≡ true) → (b ≡ true → a ≡ true) → a ≡ b
same_truth true b into back = sym (into refl)
same_truth false true into back = back refl
same_truth false false into back = refl

same_left : (held a b t : Bool) → (held ≡ true → t ≡ true → a ≡ b) → ((held && not a) && t) ≡ ((held && not b) && t)
same_left false a b t same = refl
same_left true a b true same = ap (λ c. (true && not c) && true) (same refl refl)
same_left true true true false same = refl
same_left true true false false same = refl
same_left true false true false same = refl
same_left true false false false same = refl

-- ---- the list of a rule

value_head : (net : Network) (r : Numbered) (rs : List Numbered) (id : ℕ) (list : List ℕ) (b : Bool) → eqb r.0 id ≡ b → cond b (Some (preceding_of net r)) (value_at (map (pair_of net) rs) id) ≡ Some list
    → (value_at (map (pair_of net) rs) id ≡ Some list → (q : Numbered) × (Contains rs q × ((q.0 ≡ id) × (preceding_of net q ≡ list))))
    → (q : Numbered) × (Contains (r ∷ rs) q × ((q.0 ≡ id) × (preceding_of net q ≡ list)))
value_head net r rs id list true test at below = (r, ((zero, omega arith, refl), (eqb-true r.0 id test, cc)))
value_head net r rs id list false test at below =
    let (q, (c, rest)) = below at in
    let (k, l, is) = c in
    (q, ((suc k, omega arith, is), rest))

value_of : (net : Network) (rs : List Numbered) (id : ℕ) (list : List ℕ) → value_at (map (pair_of net) rs) id ≡ Some list
    → (q : Numbered) × (Contains rs q × ((q.0 ≡ id) × (preceding_of net q ≡ list)))
value_of net [] id list at = absurd (cc)
value_of net (r ∷ rs) id list at = value_head net r rs id list (eqb r.0 id) refl at (value_of net rs id list)

list_of : (net : Network) → IsWellFormed net → (over : Overlaps) → IsOverlaps net over → (rule : Numbered) → Contains net.rules rule → (list : List ℕ)
    → value_at (listed over) rule.0 ≡ Some list → preceding_of net rule ≡ list
list_of net wf over is rule among list at =
    let (q, (c, (number, same))) = value_of net net.rules rule.0 list (sym (ap (λ (ls : List (ℕ × List ℕ)). value_at ls rule.0) is.lists) ∙ at) in
    let one : q ≡ rule = one_place (λ (r : Numbered). r.0) net.rules wf.rules q rule c among number in
    ap (λ (r : Numbered). preceding_of net r) (sym one) ∙ same

-- ---- what is taken out

-- what the rules of these numbers took
pub record IsPart (taken : Taken) (list : List ℕ) (own : List Pattern) : Type 0 where
  pub all : (sources : Pattern) → Contains own sources → (number : ℕ) × (get nat_cmp taken.by_number number ≡ Some sources)
  pub every : (number : ℕ) (sources : Pattern) → Contains list number → get nat_cmp taken.by_number number ≡ Some sources → Contains own sources

module _ (net : Network) (port : ℕ) (rewrite : Rewrite) (space : SpaceValue) (taken : Taken) (rule : Rule) (recalls : Recalls net port rewrite space taken rule) where
  first_of : (other : Rule) (sources : Pattern) → IsKept net port rewrite space taken.by_number other sources → other.«at» ≡ rule.«at» → precedes (numbered other) (numbered rule) ≡ true
      → (h : Header) → holds space h ≡ true → takes_sent port rewrite rule h ≡ true → matches sources h ≡ true → comes_first (numbered rule) (numbered other) ≡ true
  first_of other sources kept at before h held takes m =
      let own = and_parts (port_fits (in_port rule.inp) port) (matches rule.pattern (rewritten rewrite h)) takes in
      let his = and_parts (port_fits (in_port other.inp) port) (matches other.pattern (rewritten rewrite h)) (sym (kept.takes h held) ∙ m) in
      and_from (precedes (numbered other) (numbered rule)) (rules_meet (model_of other) (model_of rule)) before
      (and_from (eqb other.«at» rule.«at») (ports_meet (in_port other.inp) (in_port rule.inp) && meets other.pattern rule.pattern) (eq-eqb other.«at» rule.«at» at)
      (and_from (ports_meet (in_port other.inp) (in_port rule.inp)) (meets other.pattern rule.pattern)
      (both_fit (in_port other.inp) (in_port rule.inp) port his.0 own.0)
      (both_meet other.pattern rule.pattern (rewritten rewrite h) his.1 own.1)))

  module _ (wf : IsWellFormed net) (over : Overlaps) (is : IsOverlaps net over) (among : Contains net.rules (numbered rule)) (list : List ℕ) (at : value_at (listed over) rule.id ≡ Some list)
      (own : List Pattern) (part : IsPart taken list own) where
    same_taken : (h : Header) → holds space h ≡ true → takes_sent port rewrite rule h ≡ true → any_matches own h ≡ any_matches taken.patterns.items h
    same_taken h held takes = same_truth (any_matches own h) (any_matches taken.patterns.items h) into back
      where
        into : any_matches own h ≡ true → any_matches taken.patterns.items h ≡ true
        into e =
            let (s, (c, m)) = any_member own h e in
            let (number, found) = part.all s c in
            let (k, l, there) = recalls.only number s found in
            member_any taken.patterns.items h s k l there m

        back : any_matches taken.patterns.items h ≡ true → any_matches own h ≡ true
        back e =
            let (s, (c, m)) = any_member taken.patterns.items h e in
            let (other, (kept, (box, before))) = recalls.each s c in
            let first = first_of other s kept box before h held takes m in
            let inside : Contains (preceding_of net (numbered rule)) other.id =
            Contains-map (λ (r : Numbered). r.0) (filter (comes_first (numbered rule)) net.rules) (numbered other)
            (Contains-filter (comes_first (numbered rule)) net.rules (numbered other) kept.among first) in
            let in_list : Contains list other.id = subst (λ (ns : List ℕ). Contains ns other.id) (list_of net wf over is (numbered rule) among list at) inside in
            let (k, l, there) = part.every other.id s in_list kept.found in
            member_any own h s k l there m

    pub part_left : (h : Header) → (is_left space own h && takes_sent port rewrite rule h) ≡ (is_left space taken.patterns.items h && takes_sent port rewrite rule h)
    part_left h = same_left (holds space h) (any_matches own h) (any_matches taken.patterns.items h) (takes_sent port rewrite rule h) (same_taken h)

    pub part_taken : (branch : Branch) (sources : Pattern) → IsTaken port rewrite rule space own branch sources → IsTaken port rewrite rule space taken.patterns.items branch sources
    part_taken branch sources took = record {
      number = took.number;
      rewrites = took.rewrites;
      width = took.width;
      headers = λ h. took.headers h ∙ part_left h;
      sources_width = took.sources_width;
      takes = took.takes;
      some = took.some;
    }

-- ---- the rule at a place

pub rule_fits : (net : Network) (at : ℕ) (rules : List Rule) (p : ℕ) (own : Rule) → IsTried net at rules → slice_get rules p ≡ Some own → FitsRule net (model_of own)
rule_fits net at rules p own tried here =
    subst (λ (r : Rule). FitsRule net (model_of r)) (get_or_from_slice_get rules p own own here) (tried.fit p own (slice_get_within rules p own here))

pub rule_among : (net : Network) (at : ℕ) (rules : List Rule) (p : ℕ) (own : Rule) → IsTried net at rules → slice_get rules p ≡ Some own → Contains net.rules (numbered own)
rule_among net at rules p own tried here = (tried.all (numbered own) (Contains-map numbered rules own (contains_at rules p own here))).0

pub out_wide : (net : Network) (box width : ℕ) (taken : Action) → width ≡ net.width → FitsOut net box taken → IsAsWide width taken
out_wide net box width Drop same fits = tt
out_wide net box width (Out port rewrite) same fits = fits.1 ∙ sym same

-- ---- what is kept while rules are gone through

-- each rule that took headers stands at one of so many places
pub record IsEarlier (net : Network) (port : ℕ) (rewrite : Rewrite) (space : SpaceValue) (rules : List Rule) (places : List ℕ) (taken : Taken) (k : ℕ) : Type 0 where
  pub each : (sources : Pattern) → Contains taken.patterns.items sources
      → (j : ℕ) × ((other : Rule) × ((j < k) × ((slice_get rules (get_or places j 0) ≡ Some other) × IsKept net port rewrite space taken.by_number other sources)))
  pub only : (number : ℕ) (sources : Pattern) → get nat_cmp taken.by_number number ≡ Some sources → Contains taken.patterns.items sources

module _ (net : Network) (port : ℕ) (rewrite : Rewrite) (space : SpaceValue) (rules : List Rule) (places : List ℕ) where
  pub earlier_none : (taken : Taken) → taken.patterns.items ≡ [] → ((number : ℕ) → get nat_cmp taken.by_number number ≡ None) → IsEarlier net port rewrite space rules places taken 0
  earlier_none taken empty none = record {
    each = λ s c. nothing s (subst (λ (ps : List Pattern). Contains ps s) empty c);
    only = λ number s found. let both : None ≡ Some s = sym (none number) ∙ found in absurd (cc);
  }
    where
      nothing : {A : Type 0} (s : Pattern) → Contains [] s → A
      nothing s (k, l, at) = absurd (omega arith)

  pub earlier_skip : (taken : Taken) (k : ℕ) → IsEarlier net port rewrite space rules places taken k → IsEarlier net port rewrite space rules places taken (k + 1)
  earlier_skip taken k so_far = record {
    each = λ s c. let (j, (other, (below, rest))) = so_far.each s c in (j, (other, (omega arith, rest)));
    only = so_far.only;
  }

  module _ (at : ℕ) (tried : IsTried net at rules) (rises : (j : ℕ) → j + 1 < length places → get_or places j 0 < get_or places (j + 1) 0) (k : ℕ) (inside : k < length places)
      (own : Rule) (here : slice_get rules (get_or places k 0) ≡ Some own) (taken : Taken) (so_far : IsEarlier net port rewrite space rules places taken k) where
    among : (i : ℕ) (other : Rule) → slice_get rules i ≡ Some other → Contains net.rules (numbered other) × (other.«at» ≡ at)
    among i other is = tried.all (numbered other) (Contains-map numbered rules other (contains_at rules i other is))

    precedes_own : (j : ℕ) (other : Rule) → j < k → slice_get rules (get_or places j 0) ≡ Some other → precedes (numbered other) (numbered own) ≡ true
    precedes_own j other below is =
        let q = get_or places j 0 in
        let p = get_or places k 0 in
        sym (ap (λ (r : Rule). precedes (numbered r) (numbered (get_or rules p own))) (get_or_from_slice_get rules q other own is)
        ∙ ap (λ (r : Rule). precedes (numbered other) (numbered r)) (get_or_from_slice_get rules p own own here))
        ∙ tried.order q p own (rising_below places rises k j below inside) (slice_get_within rules p own here)

    pub earlier_recalls : Recalls net port rewrite space taken own
    earlier_recalls = record {
      each = λ s c.
          let (j, (other, (below, (is, kept)))) = so_far.each s c in
          (other, (kept, ((among (get_or places j 0) other is).1 ∙ sym (among (get_or places k 0) own here).1, precedes_own j other below is)));
      only = so_far.only;
    }

    pub earlier_take : IsWellFormed net → (sources : Pattern) (new : Taken) → ((h : Header) → IsTrue (holds space h) → matches sources h ≡ takes_sent port rewrite own h)
        → new.patterns.items ≡ taken.patterns.items ++ sources ∷ [] → get nat_cmp new.by_number own.id ≡ Some sources
        → ((number : ℕ) → (number ≡ own.id → ⊥) → get nat_cmp new.by_number number ≡ get nat_cmp taken.by_number number) → IsEarlier net port rewrite space rules places new (k + 1)
    earlier_take wf sources new takes grown found others = record {
      each = λ s c. elim (Contains-push_cases taken.patterns.items sources s (subst (λ (ps : List Pattern). Contains ps s) grown c)) [
        | inl before ↦
            let (j, (other, (below, (is, kept)))) = so_far.each s before in (
              j,
              (
                other,
                (
                  omega arith,
                  (
                    is,
                    record {
                      among = kept.among;
                      found = others other.id (apart j other below is) ∙ kept.found;
                      takes = kept.takes;
                    },
                  ),
                ),
              ),
            )
        | inr same ↦ (
          k,
          (
            own,
            (
              omega arith,
              (
                here,
                record {
                  among = (among (get_or places k 0) own here).0;
                  found = found ∙ ap (λ (p : Pattern). Some p) same;
                  takes = λ h held. sym (ap (λ (p : Pattern). matches p h) same) ∙ takes h held;
                },
              ),
            ),
          ),
        )
      ];
      only = λ number s is. subst (λ (ps : List Pattern). Contains ps s) (sym grown) (elim (cases_Bool (eqb number own.id)) [
        | inl here_now ↦
            let both : Some sources ≡ Some s = sym found ∙ ap (λ n. get nat_cmp new.by_number n) (sym (eqb-true number own.id here_now)) ∙ is in
            let same : sources ≡ s = cc in
            subst (λ (p : Pattern). Contains (taken.patterns.items ++ sources ∷ []) p) same (Contains-push taken.patterns.items sources)
        | inr elsewhere ↦
            Contains-append_left taken.patterns.items (sources ∷ []) s (so_far.only number s (sym (others number (eqb-false number own.id elsewhere)) ∙ is))
      ]);
    }
      where
        apart : (j : ℕ) (other : Rule) → j < k → slice_get rules (get_or places j 0) ≡ Some other → other.id ≡ own.id → ⊥
        apart j other below is same =
            let one : numbered other ≡ numbered own =
            one_place (λ (r : Numbered). r.0) net.rules wf.rules (numbered other) (numbered own) (among (get_or places j 0) other is).0 (among (get_or places k 0) own here).0 same in
            true≢false (sym (precedes_own j other below is) ∙ ap (λ (r : Numbered). precedes r (numbered own)) one ∙ not_itself (numbered own))

pub none_weaker : {X : Type 0} (o : Option X) (P Q : Type 0) → (P → Q) → IfNone o P → IfNone o Q
none_weaker None P Q f p = f p
none_weaker (Some x) P Q f p = tt

pub part_widths : (taken : Taken) (list : List ℕ) (own : List Pattern) (width : ℕ) → IsPart taken list own → ((number : ℕ) (sources : Pattern) → get nat_cmp taken.by_number number ≡ Some sources → Contains taken.patterns.items sources)
    → All (λ sources. length sources ≡ width) taken.patterns.items → All (λ sources. length sources ≡ width) own
part_widths taken list own width part only wide k d inside =
    let s = get_or own k d in
    let (number, found) = part.all s (Contains-get_or own k d inside) in
    All-contains (λ (sources : Pattern). length sources ≡ width) taken.patterns.items s wide (only number s found)
