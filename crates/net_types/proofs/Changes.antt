-- A network's rules with one more, and without one.
use Rattle.std.proofs.Common.{◌≡◌, ◌≢◌, ℕ, zero, suc, ◌+◌, ◌^◌, ◌<◌, ◌≤◌, eqb, Bool, true, false, not, List, [], ◌∷◌, length, map, get_or, Some, None, IsSome, sym, ap, subst, refl, arith, ◌∙◌, inl, inr}
use Rattle.std.specs.List.{filter, find, insert, remove, slice_get, All, Contains}
use Rattle.std.specs.List.Sorted.{IsStrictlyIncreasing}
use Rattle.std.proofs.lemmas.List.{length-map}
use Rattle.std.proofs.lemmas.List.Edits.{length-insert, length-remove}
use Rattle.std.proofs.lemmas.Bool.Decides.{nat_tests}
use Rattle.std.proofs.lemmas.List.Elements.{All-filter, Contains-get_or}
use Rattle.std.proofs.lemmas.List.Kept.{AllPairs-filter}
use Rattle.list_laws.proofs.Pairs.{AllPairs-insert}
use Rattle.list_laws.proofs.Members.{Contains-filter, Contains-from_filter, passes_of, filter_shorter, filter-map, Contains-inserted, Contains-insert, Contains-from_insert}
use Rattle.network_model.specs.Network.{Network, Numbered, Rule as Model, value_at, is_at, InPort, AnyPort, OnePort, Action, Drop, Out}
use Rattle.network_model.specs.Building.{put, with_rule, without_rule}
use Rattle.network_model.specs.WellFormed.{IsWellFormed, FitsRule, FitsIn, FitsOut}
use Rattle.net_types.specs.declared.rule.Rule.{Rule}
use Rattle.net_types.specs.declared.parts.Parts.{Parts}
use Rattle.network_model.specs.Limits.{most_rules}
use Rattle.net_types.specs.declared.network.Receiver.{Receiver}
use Rattle.net_types.specs.declared.network.RulePlace.{RulePlace}
use Rattle.net_types.specs.declared.parts.Port.{Port}
use Rattle.network_model.specs.Within.{IsWithin}
use Rattle.net_types.specs.Parts.{network_of}
use Rattle.net_types.specs.Places.{IsAt, IsGap}
use Rattle.net_types.specs.Rules.{model_of, numbered}
use Rattle.net_types.specs.Tables.{comes_before, IsInPrecedence, IsPlaceInPrecedence, at_places, IsPlaced, raised, lowered, indexed, IsIndexed, IsCopy}
use Rattle.net_types.proofs.Fits.{rule_fits}
use Rattle.net_types.proofs.Lists.{rises_filter}
use Rattle.net_types.proofs.Receivers.{by_port_same}
use Rattle.net_types.proofs.InPrecedence.{one_first}
use Rattle.net_types.proofs.Finds.{looked_up}
use Rattle.net_types.proofs.Placed.{read_at, length-at, rule_by_row, rows_rise, All-put_in, HasAlone, has_alone, others, others_left, other_rows, rows_left, narrower, cut_rules, cut_placed, wider, put_rules, put_placed, gap_at}
use Rattle.net_types.proofs.Rows.{rises_rows, found_nowhere}
use Rattle.net_types.proofs.Within.{rule_within}

-- a list that rises by number, with a further row in its place
pub put_insert : {X A : Type 0} (f : X → ℕ × A) (xs : List X) (i : ℕ) (x : X) → IsGap (λ y. (f y).0) xs (f x).0 i → put (f x).0 (f x).1 (map f xs) ≡ map f (insert xs i x)
put_insert f [] zero x gap = refl
put_insert f [] (suc i) x gap = absurd (omega (arith, gap.inside))
put_insert f (y ∷ ys) zero x gap = (let below = gap.after 0 y (omega arith) (omega arith) in grind (arith, nat_tests, below))
put_insert f (y ∷ ys) (suc i) x gap =
    let rest = put_insert f ys i x (record {
      inside = omega (arith, gap.inside);
      before = λ k d below. gap.before (suc k) d (omega arith);
      after = λ k d le below. gap.after (suc k) d (omega arith) (omega arith);
    }) in
    let above = gap.before 0 y (omega arith) in
    grind (arith, nat_tests, rest, above)

-- a number that is looked up in vain is none of theirs
absent : (rules : List Rule) (id : ℕ) → value_at (map numbered rules) id ≡ None → (r : Rule) → Contains rules r → r.id ≢ id
absent [] id free r (k, inside, is) same = absurd (omega arith)
absent (x ∷ rules) id free r (k, inside, is) same = by_test (eqb x.id id) refl (λ none later. absent rules id none r later same) k inside is
  where
    by_test : (b : Bool) → eqb x.id id ≡ b → (value_at (map numbered rules) id ≡ None → Contains rules r → ⊥) → (n : ℕ) → n < length (x ∷ rules) → get_or (x ∷ rules) n r ≡ r → ⊥
    by_test true test rest n n_in n_is = absurd (grind (arith, test, free))
    by_test false test rest zero n_in n_is = (let own : x.id ≡ id = ap (λ (q : Rule). q.id) n_is ∙ same in grind (arith, nat_tests, test, own))
    by_test false test rest (suc n) n_in n_is = rest (grind (arith, test, free)) (n, omega arith, n_is)

pub in_precedence_insert : (rules ordered : List Rule) (i j : ℕ) (rule : Rule) → IsInPrecedence rules ordered → i ≤ length rules → IsPlaceInPrecedence rule ordered j → value_at (map numbered rules) rule.id ≡ None → IsInPrecedence (insert rules i rule) (insert ordered j rule)
in_precedence_insert rules ordered i j rule in_precedence inside place free = record {
  sound = λ r contained. elim (Contains-from_insert ordered j rule r place.inside contained) [
    | inl same ↦ rw same (Contains-inserted rules i rule inside)
    | inr there ↦ Contains-insert rules i rule r inside (in_precedence.sound r there)
  ];
  complete = λ r contained. elim (Contains-from_insert rules i rule r inside contained) [
    | inl same ↦ rw same (Contains-inserted ordered j rule place.inside)
    | inr there ↦ Contains-insert ordered j rule r place.inside (in_precedence.complete r there)
  ];
  order = AllPairs-insert (λ a b. comes_before a b ≡ true) ordered j rule place.inside in_precedence.order place.before
      (λ k d le below. one_first rule (get_or ordered k d) (place.after k d le below)
      (λ same. absent rules rule.id free (get_or ordered k d) (in_precedence.sound (get_or ordered k d) (Contains-get_or ordered k d below)) (sym same)));
}

-- a network without one of its rules
pub without_fits : (net : Network) (id : ℕ) → IsWellFormed net → IsWellFormed (without_rule id net)
without_fits net id h = record {
  width = h.width;
  boxes = h.boxes;
  ports = h.ports;
  links = h.links;
  terminals = h.terminals;
  rules = rises_filter (λ (r : Numbered). not (eqb r.0 id)) net.rules h.rules;
  homes = h.homes;
  joined = λ a b linked. (let fits = h.joined a b linked in record { port = fits.port; other = fits.other; back = fits.back });
  placed = λ k d below. (let fits = h.placed k d below in record { port = fits.port; unlinked = fits.unlinked; permits = fits.permits; forbids = fits.forbids });
  apart = h.apart;
  ruled = All-filter (λ (r : Numbered). not (eqb r.0 id)) (λ (r : Numbered). FitsRule (without_rule id net) r.1) net.rules
      (λ k d below. same_places (h.ruled k d below));
}
  where
    same_in : (box : ℕ) (inp : InPort) → FitsIn net box inp → FitsIn (without_rule id net) box inp
    same_in box AnyPort fits = fits
    same_in box (OnePort port) fits = fits

    same_out : (box : ℕ) (action : Action) → FitsOut net box action → FitsOut (without_rule id net) box action
    same_out box Drop fits = fits
    same_out box (Out port rewrite) fits = fits

    same_places : {r : Model} → FitsRule net r → FitsRule (without_rule id net) r
    same_places {r} fits = record { box = fits.box; inp = same_in r.at r.inp fits.inp; pattern = fits.pattern; out = same_out r.at r.action fits.out }

pub without_within : (net : Network) (id : ℕ) → IsWithin net → IsWithin (without_rule id net)
without_within net id h = record {
  boxes = h.boxes;
  ports = h.ports;
  terminals = h.terminals;
  rules = omega (arith, h.rules, filter_shorter (λ (r : Numbered). not (eqb r.0 id)) net.rules);
  permits = h.permits;
  forbids = h.forbids;
}

pub in_precedence_filter : (rules ordered : List Rule) (p : Rule → Bool) → IsInPrecedence rules ordered → IsInPrecedence (filter p rules) (filter p ordered)
in_precedence_filter rules ordered p in_precedence = record {
  sound = λ r contained. Contains-filter p rules r (in_precedence.sound r (Contains-from_filter p ordered r contained)) (passes_of p ordered r contained);
  complete = λ r contained. Contains-filter p ordered r (in_precedence.complete r (Contains-from_filter p rules r contained)) (passes_of p rules r contained);
  order = AllPairs-filter (λ a b. comes_before a b ≡ true) p ordered in_precedence.order;
}

module _ (parts : Parts) (ordered : List Rule) (rows : List RulePlace) (receivers : List Receiver) (by_box : List Port) (h : IsIndexed parts ordered rows receivers by_box) where
  pub rising : IsStrictlyIncreasing (map (λ (row : RulePlace). row.id) rows)
  rising = rows_rise ordered rows h.placed (rises_rows numbered (at_places ordered rows) h.well_formed.rules)

  -- a network without a rule
  module _ (i : ℕ) (row : RulePlace) (there : slice_get rows i ≡ Some row) where
    here : IsPlaced ordered row
    here = (let at = read_at rows i row there in subst (IsPlaced ordered) (at.1 row) (h.placed i row at.0))

    alone : HasAlone ordered row.id row.place
    alone = has_alone ordered rows row h.by_box (rises_rows numbered (at_places ordered rows) h.well_formed.rules) here

    pub place_inside : row.place < length ordered
    place_inside = (read_at ordered row.place here.rule here.there).0

    row_is_at : IsAt (λ (r : RulePlace). r.id) rows row.id i
    row_is_at = (let at = read_at rows i row there in record { inside = at.0; same = λ d. ap (λ (r : RulePlace). r.id) (at.1 d) })

    fewer_rules : remove ordered row.place ≡ others row.id ordered
    fewer_rules = others_left ordered row.id row.place place_inside alone

    fewer_rows : remove rows i ≡ other_rows row.id rows
    fewer_rows = rows_left rows row.id i rising row_is_at

    cut_model : indexed parts (others row.id ordered) (narrower row.id row.place rows) ≡ without_rule row.id (indexed parts ordered rows)
    cut_model =
        ap (network_of parts) (cut_rules ordered row.id row.place alone rows h.placed)
        ∙ ap (λ l. record (indexed parts ordered rows) { rules = l }) (sym (filter-map numbered (λ (r : Numbered). not (eqb r.0 row.id)) (at_places ordered rows)))

    as_many_left : length (others row.id ordered) ≡ length (narrower row.id row.place rows)
    as_many_left =
        let less = length-remove ordered row.place place_inside in
        let less_rows = length-remove rows i row_is_at.inside in
        let rules_left = ap length fewer_rules in
        let rows_are = ap length fewer_rows in
        let mapped = length-map (other_rows row.id rows) (lowered row.place) in
        let as_many = h.as_many in
        omega arith

    cut_indexed_others : IsIndexed parts (others row.id ordered) (narrower row.id row.place rows) receivers by_box
    cut_indexed_others = record {
      well_formed = rw cut_model (without_fits (indexed parts ordered rows) row.id h.well_formed);
      within = rw cut_model (without_within (indexed parts ordered rows) row.id h.within);
      placed = cut_placed ordered row.id row.place alone rows h.placed;
      as_many = as_many_left;
      by_box = rw (cut_rules ordered row.id row.place alone rows h.placed) (in_precedence_filter (at_places ordered rows) ordered (λ r. not (eqb r.id row.id)) h.by_box);
      by_port = h.by_port;
      ports = h.ports;
    }

    pub cut_network : indexed parts (remove ordered row.place) (map (lowered row.place) (remove rows i)) ≡ without_rule row.id (indexed parts ordered rows)
    cut_network = rw (fewer_rules, fewer_rows) cut_model

    pub cut_indexed : IsIndexed parts (remove ordered row.place) (map (lowered row.place) (remove rows i)) receivers by_box
    cut_indexed = rw (fewer_rules, fewer_rows) cut_indexed_others

  -- a network with a further rule
  module _ (i j : ℕ) (rule : Rule) (gap : IsGap (λ (row : RulePlace). row.id) rows rule.id i) (place : IsPlaceInPrecedence rule ordered j) (free : value_at (indexed parts ordered rows).rules rule.id ≡ None)
      (fits : FitsRule (indexed parts ordered rows) (model_of rule)) (room : length (indexed parts ordered rows).rules < most_rules) where
    pub put_network : indexed parts (insert ordered j rule) (wider rows i rule.id j) ≡ with_rule rule.id (model_of rule) (indexed parts ordered rows)
    put_network =
        ap (network_of parts) (put_rules ordered rows i j rule h.placed gap place.inside)
        ∙ ap (λ l. record (indexed parts ordered rows) { rules = l }) (sym (put_insert numbered (at_places ordered rows) i rule (gap_at ordered rows rule.id i h.placed gap)))

    as_many_now : length (insert ordered j rule) ≡ length (wider rows i rule.id j)
    as_many_now =
        let more = length-insert ordered j rule place.inside in
        let more_rows = length-insert rows i (record { id = rule.id; place = j }) gap.inside in
        let mapped = length-map (insert rows i (record { id = rule.id; place = j })) (raised rule.id j) in
        let as_many = h.as_many in
        omega arith

    pub put_indexed : IsIndexed parts (insert ordered j rule) (wider rows i rule.id j) receivers by_box
    put_indexed = record {
      well_formed = rw put_network (rule_fits (indexed parts ordered rows) rule.id (model_of rule) free fits h.well_formed);
      within = rw put_network (rule_within (indexed parts ordered rows) rule.id (model_of rule) room h.within);
      placed = put_placed ordered rows i j rule h.placed gap place.inside;
      as_many = as_many_now;
      by_box = rw (put_rules ordered rows i j rule h.placed gap place.inside)
          (in_precedence_insert (at_places ordered rows) ordered i j rule h.by_box (gap_at ordered rows rule.id i h.placed gap).inside place free);
      by_port = h.by_port;
      ports = h.ports;
    }

  -- there are few rules
  pub few_rules : length ordered ≤ most_rules
  few_rules =
      let within = h.within.rules in
      let as_many = h.as_many in
      let numbered_too = length-map (at_places ordered rows) numbered in
      let at = length-at ordered rows h.placed in
      omega arith

  -- each place is that of a rule
  pub places_inside : All (λ (row : RulePlace). row.place < length ordered) rows
  places_inside k d below = (let here = h.placed k d below in (read_at ordered (get_or rows k d).place here.rule here.there).0)

  -- a place goes up by one without passing 32 bits, that of a further rule too
  pub few_places : (id i j : ℕ) → j ≤ length ordered → All (λ (row : RulePlace). row.place + 1 < 2 ^ 32) (insert rows i (record { id = id; place = j }))
  few_places id i j inside =
      let few = few_rules in
      All-put_in (λ (row : RulePlace). row.place + 1 < 2 ^ 32) rows i (record { id = id; place = j }) (omega arith)
      (λ k d below. (let here = places_inside k d below in omega arith))

  -- a rule that is looked up in vain has no row
  pub no_place : (id i : ℕ) → IsAt (λ (row : RulePlace). row.id) rows id i → value_at (indexed parts ordered rows).rules id ≡ None → ⊥
  no_place id i found_at free =
      let row : RulePlace = record { id = 0; place = 0 } in
      let here = h.placed i row found_at.inside in
      let at = read_at ordered (get_or rows i row).place here.rule here.there in
      absent (at_places ordered rows) id free here.rule (h.by_box.sound here.rule ((get_or rows i row).place, at.0, at.1 here.rule)) (here.number ∙ found_at.same row)

  -- and one that is found has a row
  pub no_gap : (id i : ℕ) → IsGap (λ (row : RulePlace). row.id) rows id i → IsSome (value_at (indexed parts ordered rows).rules id) → ⊥
  no_gap id i gap found =
      let nowhere : find (λ (row : RulePlace). eqb row.id id) rows ≡ None = found_nowhere (λ (row : RulePlace). row.id) rows id i gap in
      let none : None ≡ find (λ (r : Rule). eqb r.id id) (at_places ordered rows) = rule_by_row ordered rows id None h.placed (sym nowhere) in
      let looked = looked_up numbered (at_places ordered rows) id None none in
      let no : false ≡ true = rw (← looked) at found in absurd (cc)

remove-insert : {X : Type 0} (xs : List X) (i : ℕ) (x : X) → i ≤ length xs → remove (insert xs i x) i ≡ xs
remove-insert xs zero x inside = refl
remove-insert [] (suc i) x inside = absurd (omega arith)
remove-insert (y ∷ ys) (suc i) x inside = ap (λ l. y ∷ l) (remove-insert ys i x (omega arith))

-- a row that was put among the others and taken out again
pub kept_rows : (rows more fewer : List RulePlace) (i : ℕ) (row : RulePlace) → i ≤ length rows → more ≡ insert rows i row → fewer ≡ remove more i → fewer ≡ rows
kept_rows rows more fewer i row inside more_is fewer_is = fewer_is ∙ ap (λ l. remove l i) more_is ∙ remove-insert rows i row inside

pub copy_network : (parts copy : Parts) (rules : List Rule) → IsCopy copy parts → network_of copy rules ≡ network_of parts rules
copy_network parts copy rules is = ap (λ (net : Network). record net { rules = map numbered rules }) is.network

pub copy_indexed : (parts copy : Parts) (ordered : List Rule) (rows : List RulePlace) (receivers : List Receiver) (by_box : List Port) → IsCopy copy parts → IsIndexed parts ordered rows receivers by_box → IsIndexed copy ordered rows receivers by_box
copy_indexed parts copy ordered rows receivers by_box is h = record {
  well_formed = rw (copy_network parts copy (at_places ordered rows) is) h.well_formed;
  within = rw (copy_network parts copy (at_places ordered rows) is) h.within;
  placed = h.placed;
  as_many = h.as_many;
  by_box = h.by_box;
  by_port = by_port_same parts.terminals.items copy.terminals.items receivers (ap (λ (net : Network). net.terminals) is.network) h.by_port;
  ports = rw is.ports h.ports;
}
