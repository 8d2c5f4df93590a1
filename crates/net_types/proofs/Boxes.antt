-- The rules of one box, taken from all rules in the order in which boxes try them.
use Rattle.std.proofs.Common.{◌≡◌, ℕ, eqb, Bool, true, false, List, map, get_or, Option, Some, None, sym, ap, refl, subst, arith, ◌∙◌}
use Rattle.std.specs.List.{find, filter, Contains, All, AllPairs}
use Rattle.std.specs.Option.{option_map, IfSome}
use Rattle.std.proofs.lemmas.Bool.Decides.{nat_tests}
use Rattle.std.proofs.lemmas.List.Elements.{All-filter, All-contains, Contains-get_or, filter_passes}
use Rattle.std.proofs.lemmas.List.Kept.{AllPairs-filter}
use Rattle.list_laws.proofs.Pairs.{AllPairs-map}
use Rattle.list_laws.proofs.Members.{Contains-map, Contains-from_map, Contains-filter, Contains-from_filter, All-from_map}
use Rattle.network_model.specs.Bits.{Header}
use Rattle.network_model.specs.Network.{Network, Numbered, value_at, takes, precedes, hit, is_first}
use Rattle.network_model.specs.WellFormed.{Rises, FitsRule}
use Rattle.net_types.specs.declared.rule.Rule.{Rule}
use Rattle.net_types.specs.declared.parts.Parts.{Parts}
use Rattle.net_types.specs.declared.network.Receiver.{Receiver}
use Rattle.net_types.specs.declared.network.RulePlace.{RulePlace}
use Rattle.net_types.specs.declared.parts.Port.{Port}
use Rattle.net_types.specs.Rules.{model_of, numbered}
use Rattle.net_types.specs.Tables.{takes_packet, comes_before, IsInPrecedence, at_places, indexed, IsIndexed}
use Rattle.net_types.proofs.Finds.{Nowhere, First, found, find_nothing, find-map}
use Rattle.net_types.proofs.Precedence.{hit_in_order}

module _ (rules ordered : List Rule) (in_precedence : IsInPrecedence rules ordered) (box : ℕ) where
  abbrev of_box : List Rule
  of_box = filter (λ (r : Rule). eqb r.«at» box) ordered

  pub box_sound : (r : Numbered) → Contains (map numbered of_box) r → Contains (map numbered rules) r × (r.1.at ≡ box)
  box_sound r contained =
      let (rule, facts) = Contains-from_map numbered of_box r contained in
      let (inside, same) = facts in
      let passes : eqb rule.«at» box ≡ true = All-contains (λ (x : Rule). eqb x.«at» box ≡ true) of_box rule (filter_passes (λ (x : Rule). eqb x.«at» box) ordered) inside in
      let there : Contains rules rule = in_precedence.sound rule (Contains-from_filter (λ (x : Rule). eqb x.«at» box) ordered rule inside) in
      subst (λ (n : Numbered). Contains (map numbered rules) n × (n.1.at ≡ box)) same (Contains-map numbered rules rule there, grind (arith, nat_tests, passes))

  pub box_complete : (r : Numbered) → Contains (map numbered rules) r → r.1.at ≡ box → Contains (map numbered of_box) r
  box_complete r contained same_box =
      let (rule, facts) = Contains-from_map numbered rules r contained in
      let (inside, same) = facts in
      let passes : eqb rule.«at» box ≡ true = (let of_r : rule.«at» ≡ box = ap (λ (n : Numbered). n.1.at) same ∙ same_box in grind (arith, nat_tests)) in
      let there : Contains of_box rule = Contains-filter (λ (x : Rule). eqb x.«at» box) ordered rule (in_precedence.complete rule inside) passes in
      subst (Contains (map numbered of_box)) same (Contains-map numbered of_box rule there)

  pub box_order : AllPairs (λ a b. precedes (numbered a) (numbered b) ≡ true) of_box
  box_order i j d before inside =
      let pass = filter_passes (λ (x : Rule). eqb x.«at» box) ordered in
      let order : comes_before (get_or of_box i d) (get_or of_box j d) ≡ true =
      AllPairs-filter (λ a b. comes_before a b ≡ true) (λ (x : Rule). eqb x.«at» box) ordered in_precedence.order i j d before inside in
      let at_i : eqb (get_or of_box i d).«at» box ≡ true = pass i d (omega arith) in
      let at_j : eqb (get_or of_box j d).«at» box ≡ true = pass j d inside in
      first_of_box (get_or of_box i d) (get_or of_box j d) order at_i at_j
    where
      first_of_box : (a b : Rule) → comes_before a b ≡ true → eqb a.«at» box ≡ true → eqb b.«at» box ≡ true → precedes (numbered a) (numbered b) ≡ true
      first_of_box a b order at_a at_b = grind (arith, nat_tests, order, at_a, at_b)

  pub box_all : (P : Rule → Type 0) → All P rules → All P of_box
  box_all P all = All-filter (λ (x : Rule). eqb x.«at» box) P ordered
      (λ k d below. All-contains P rules (get_or ordered k d) all (in_precedence.sound (get_or ordered k d) (Contains-get_or ordered k d below)))

  pub box_hits : (net : Network) → net.rules ≡ map numbered rules → Rises net.rules → (port : ℕ) (header : Header) → value_at net.ports port ≡ Some box → hit net port header ≡ find (takes net port header) (map numbered of_box)
  box_hits net is rises port header of_port =
      hit_in_order net port header rises (map numbered of_box)
      (λ r contained. subst (λ l. Contains l r) (sym is) (box_sound r contained).0)
      (λ r contained taken. box_complete r (subst (λ l. Contains l r) is contained) (same_box r taken))
      (λ i j d before inside. pairs i j d before inside)
    where
      same_box : (r : Numbered) → takes net port header r ≡ true → r.1.at ≡ box
      same_box r taken = (let here = (rw of_port at taken) in grind (arith, nat_tests, here))

      not_later : (a b : Rule) → precedes (numbered a) (numbered b) ≡ true → precedes (numbered b) (numbered a) ≡ false
      not_later a b order = grind (arith, nat_tests, order)

      pairs : AllPairs (λ a b. precedes b a ≡ false) (map numbered of_box)
      pairs = AllPairs-map numbered (λ a b. precedes b a ≡ false) of_box (λ i j d before inside. not_later (get_or of_box i d) (get_or of_box j d) (box_order i j d before inside))

-- the same of a network's parts and what it keeps beside them
module _ (parts : Parts) (ordered : List Rule) (places : List RulePlace) (receivers : List Receiver) (by_box : List Port) (is_indexed : IsIndexed parts ordered places receivers by_box) (box : ℕ) (result : List Rule) (is : result ≡ filter (λ r. eqb r.«at» box) ordered) where
  abbrev net : Network
  net = indexed parts ordered places

  pub result_hits : (port : ℕ) (header : Header) → value_at net.ports port ≡ Some box → hit net port header ≡ find (takes net port header) (map numbered result)
  result_hits port header of_port = rw is (box_hits (at_places ordered places) ordered is_indexed.by_box box net refl is_indexed.well_formed.rules port header of_port)

  pub result_sound : (r : Numbered) → Contains (map numbered result) r → Contains net.rules r × (r.1.at ≡ box)
  result_sound r contained = box_sound (at_places ordered places) ordered is_indexed.by_box box r (subst (λ l. Contains (map numbered l) r) is contained)

  pub result_complete : (r : Numbered) → Contains net.rules r × (r.1.at ≡ box) → Contains (map numbered result) r
  result_complete r (contained, same) = subst (λ l. Contains (map numbered l) r) (sym is) (box_complete (at_places ordered places) ordered is_indexed.by_box box r contained same)

  pub result_order : AllPairs (λ a b. precedes (numbered a) (numbered b) ≡ true) result
  result_order = subst (λ l. AllPairs (λ a b. precedes (numbered a) (numbered b) ≡ true) l) (sym is) (box_order (at_places ordered places) ordered is_indexed.by_box box)

  pub result_fits : All (λ r. FitsRule net (model_of r)) result
  result_fits = subst (λ l. All (λ r. FitsRule net (model_of r)) l) (sym is)
      (box_all (at_places ordered places) ordered is_indexed.by_box box (λ r. FitsRule net (model_of r))
      (All-from_map numbered (λ (n : Numbered). FitsRule net n.1) (at_places ordered places) is_indexed.well_formed.ruled))

-- at a port of no box nothing hits
pub hit_nowhere : (net : Network) (port : ℕ) (header : Header) → value_at net.ports port ≡ None → hit net port header ≡ None
hit_nowhere net port header nowhere =
    find_nothing (is_first net port header) net.rules (λ j d below. rw nowhere refl)

-- among the rules of the port's box, a rule takes a packet by its in port and its pattern
pub found_in_box : (net : Network) (port : ℕ) (header : Header) (box : ℕ) (rules : List Rule) → value_at net.ports port ≡ Some box → ((r : Numbered) → Contains (map numbered rules) r → Contains net.rules r × (r.1.at ≡ box)) → option_map numbered (find (takes_packet port header) rules) ≡ find (takes net port header) (map numbered rules)
found_in_box net port header box rules of_port at_box =
    find-map numbered (takes_packet port header) (takes net port header) rules
    (λ k d below. agree (get_or rules k d) (at_box _ (Contains-map numbered rules _ (Contains-get_or rules k d below))).1)
  where
    agree : (r : Rule) → r.«at» ≡ box → takes_packet port header r ≡ takes net port header (numbered r)
    agree r same = rw of_port (grind (arith, nat_tests, same))

-- what is found fits as the list does
pub found_fits : (P : Rule → Type 0) (p : Rule → Bool) (rules : List Rule) (answer : Option Rule) → All P rules → answer ≡ find p rules → IfSome answer P
found_fits P p rules None all is = tt
found_fits P p rules (Some r) all is = elim (found p rules) [
  | Nowhere none fail ↦ absurd (let gone = is ∙ none in cc)
  | First i x some inside at passes fail ↦
      let same : r ≡ x = (let both = is ∙ some in cc) in
      rw same (All-contains P rules x all (i, inside, at x))
]
