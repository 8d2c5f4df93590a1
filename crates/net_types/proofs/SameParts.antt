-- Boxes that are the same in two networks: as lists of their ports and rules, and as facts of each port and rule.
use Rattle.std.proofs.Common.{◌≡◌, ◌↔◌, ℕ, zero, suc, ◌+◌, ◌<◌, eqb, Bool, true, false, cond, List, [], ◌∷◌, length, map, get_or, Option, Some, None, Ordering, sym, ap, refl, subst, arith, ◌∙◌}
use Rattle.std.specs.List.{filter, find, Contains, AllPairs}
use Rattle.std.specs.List.Sorted.{IsStrictlySortedBy}
use Rattle.std.specs.Option.{option_map}
use Rattle.std.specs.Cmp.{IsTotalOrder}
use Rattle.std.specs.Ordering.{nat_cmp, ordering_then}
use Rattle.std.specs.declared.cmp.Ordering.TheVariants.{Less}
use Rattle.std.proofs.lemmas.Bool.{eqb-true, eq-eqb}
use Rattle.std.proofs.lemmas.Bool.Decides.{nat_tests}
use Rattle.std.proofs.lemmas.Cmp.{nat_cmp_total, on_total, then_total, back_total}
use Rattle.std.proofs.lemmas.List.Elements.{Contains-get_or}
use Rattle.std.proofs.lemmas.List.Kept.{AllPairs-filter, AllPairs-from_increasing}
use Rattle.std.proofs.lemmas.Map.Keys.{sorted_from_all_adjacent}
use Rattle.list_laws.proofs.Members.{Contains-map, Contains-from_map, Contains-filter, Contains-from_filter, passes_of}
use Rattle.list_laws.proofs.Pairs.{AllPairs-from_map}
use Rattle.list_laws.proofs.SortedLists.{same_from_sorted}
use Rattle.network_model.specs.Network as model
use Rattle.network_model.specs.Network.{Network, Numbered, value_at, precedes}
use Rattle.network_model.specs.WellFormed.{Rises}
use Rattle.net_types.specs.declared.parts.Port.{Port}
use Rattle.net_types.specs.declared.parts.Terminal.{Terminal}
use Rattle.net_types.specs.Parts.{port_of, terminal_of}
use Rattle.net_types.proofs.Finds.{find-map}
use Rattle.net_types.proofs.Rows.{one_place}

-- a value at a number stands there
value_stands : {A : Type 0} (es : List (ℕ × A)) (id : ℕ) (v : A) → value_at es id ≡ Some v → Contains es (id, v)
value_stands [] id v here = cc
value_stands {A} (e ∷ es) id v here = by_test (value_stands es id v) (eqb e.0 id) refl here
  where
    by_test : (value_at es id ≡ Some v → Contains es (id, v)) → (b : Bool) → eqb e.0 id ≡ b → cond b (Some e.1) (value_at es id) ≡ Some v → Contains (e ∷ es) (id, v)
    by_test go_on true test at =
        let same : e.1 ≡ v = cc in
        let number : e.0 ≡ id = eqb-true e.0 id test in
        (0, omega arith, λ i. (number i, same i))
    by_test go_on false test at = let later = go_on at in (suc later.0, omega arith, later.2)

-- what stands in a list that rises is the value at its number
some_value : {A : Type 0} (es : List (ℕ × A)) (id : ℕ) (v : A) → Contains es (id, v) → (w : A) × (value_at es id ≡ Some w)
some_value [] id v (k, inside, is) = absurd (omega arith)
some_value {A} (e ∷ es) id v (k, inside, is) = by_place (eqb e.0 id) refl k inside is (some_value es id v)
  where
    by_place : (b : Bool) → eqb e.0 id ≡ b → (n : ℕ) → n < length (e ∷ es) → get_or (e ∷ es) n (id, v) ≡ (id, v) → (Contains es (id, v) → (w : A) × (value_at es id ≡ Some w)) → (w : A) × (cond b (Some e.1) (value_at es id) ≡ Some w)
    by_place true test n n_in n_is go_on = (e.1, refl)
    by_place false test zero n_in n_is go_on =
        absurd (let same : e.0 ≡ id = ap (λ (x : ℕ × A). x.0) n_is in grind (arith, nat_tests, test))
    by_place false test (suc n) n_in n_is go_on = go_on (n, omega arith, n_is)

stood_value : {A : Type 0} (es : List (ℕ × A)) → Rises es → (id : ℕ) (v : A) → Contains es (id, v) → value_at es id ≡ Some v
stood_value {A} es rises id v there =
    let (w, at) = some_value es id v there in
    let same : (id, w) ≡ (id, v) = one_place (λ (e : ℕ × A). e.0) es rises (id, w) (id, v) (value_stands es id w at) there refl in
    at ∙ ap (λ (e : ℕ × A). Some e.1) same

-- ---- the ports of a box
module _ (box : ℕ) where
  abbrev is_of : ℕ × ℕ → Bool
  is_of port = eqb port.1 box

  of_itself : (port : ℕ) → is_of (port, box) ≡ true
  of_itself port = eq-eqb box box refl

  port_kept : (xs ys : List (ℕ × ℕ)) → Rises ys → filter is_of xs ≡ filter is_of ys → (port : ℕ) → value_at xs port ≡ Some box → value_at ys port ≡ Some box
  port_kept xs ys rises same port here =
      let mine : Contains (filter is_of xs) (port, box) = Contains-filter is_of xs (port, box) (value_stands xs port box here) (of_itself port) in
      let theirs : Contains (filter is_of ys) (port, box) = subst (λ l. Contains l (port, box)) same mine in
      stood_value ys rises port box (Contains-from_filter is_of ys (port, box) theirs)

  -- the same list of its ports is the same set of them
  pub same_ports : (xs ys : List (ℕ × ℕ)) → Rises xs → Rises ys → filter is_of xs ≡ filter is_of ys → (port : ℕ) → (value_at xs port ≡ Some box) ↔ (value_at ys port ≡ Some box)
  same_ports xs ys rise_x rise_y same port = (port_kept xs ys rise_y same port, port_kept ys xs rise_x (sym same) port)

  row_kept : (xs ys : List (ℕ × ℕ)) → Rises xs → ((port : ℕ) → value_at xs port ≡ Some box → value_at ys port ≡ Some box) → (e : ℕ × ℕ) → Contains (filter is_of xs) e → Contains (filter is_of ys) e
  row_kept xs ys rises each (port, home) contained =
      let at : home ≡ box = eqb-true home box (passes_of is_of xs (port, home) contained) in
      let here : value_at xs port ≡ Some box = stood_value xs rises port home (Contains-from_filter is_of xs (port, home) contained) ∙ ap Some at in
      let there : Contains (filter is_of ys) (port, box) = Contains-filter is_of ys (port, box) (value_stands ys port box (each port here)) (of_itself port) in
      subst (λ n. Contains (filter is_of ys) (port, n)) (sym at) there

  abbrev by_number : ℕ × ℕ → ℕ × ℕ → Ordering
  by_number a b = nat_cmp a.0 b.0

  rows_sorted : (xs : List (ℕ × ℕ)) → Rises xs → IsStrictlySortedBy by_number (filter is_of xs)
  rows_sorted xs rises =
      let pairs = AllPairs-filter (λ (a b : ℕ × ℕ). a.0 < b.0) is_of xs (AllPairs-from_map (λ (e : ℕ × ℕ). e.0) (λ a b. a < b) xs (AllPairs-from_increasing (map (λ e. e.0) xs) rises)) in
      sorted_from_all_adjacent (on_total (λ (e : ℕ × ℕ). e.0) nat_cmp_total) (filter is_of xs) (0, 0)
      (λ k below. less _ _ (pairs k (k + 1) (0, 0) (omega arith) below))
    where
      less : (m n : ℕ) → m < n → nat_cmp m n ≡ Less
      less m n before = grind (arith, nat_tests)

  -- the same set of its ports is the same list of them
  pub port_lists : (xs ys : List (ℕ × ℕ)) → Rises xs → Rises ys → ((port : ℕ) → (value_at xs port ≡ Some box) ↔ (value_at ys port ≡ Some box)) → filter is_of xs ≡ filter is_of ys
  port_lists xs ys rise_x rise_y each =
      same_from_sorted (on_total (λ (e : ℕ × ℕ). e.0) nat_cmp_total) (filter is_of xs) (filter is_of ys) (rows_sorted xs rise_x) (rows_sorted ys rise_y)
      (row_kept xs ys rise_x (λ port. (each port).0)) (row_kept ys xs rise_y (λ port. (each port).1))

  -- what holds of each row of the box's ports holds of each port of the box
  pub each_of : (xs : List (ℕ × ℕ)) (ports : List Port) → map port_of ports ≡ filter is_of xs → (P : ℕ → Type 0) → ((k : ℕ) (d : Port) → k < length ports → P (get_or ports k d).id) → (port : ℕ) → value_at xs port ≡ Some box → P port
  each_of xs ports are P each port here =
      let there : Contains (map port_of ports) (port, box) = subst (λ l. Contains l (port, box)) (sym are) (Contains-filter is_of xs (port, box) (value_stands xs port box here) (of_itself port)) in
      let (row, facts) = Contains-from_map port_of ports (port, box) there in
      let (place, same) = facts in
      subst P (ap (λ (r : Port). r.id) place.2 ∙ ap (λ (e : ℕ × ℕ). e.0) same) (each place.0 row place.1)

  -- a row of the box's ports is a port of the box
  pub one_of : (xs : List (ℕ × ℕ)) (ports : List Port) → map port_of ports ≡ filter is_of xs → Rises xs → (k : ℕ) (d : Port) → k < length ports → value_at xs (get_or ports k d).id ≡ Some box
  one_of xs ports are rises k d below =
      let row : Port = get_or ports k d in
      let there : Contains (filter is_of xs) (port_of row) = subst (λ l. Contains l (port_of row)) are (Contains-map port_of ports row (Contains-get_or ports k d below)) in
      stood_value xs rises row.id row.«at» (Contains-from_filter is_of xs (port_of row) there)
      ∙ ap Some (eqb-true row.«at» box (passes_of is_of xs (port_of row) there))

-- ---- the rules of a box
abbrev precedence : Numbered → Numbered → Ordering
precedence a b = ordering_then (nat_cmp b.1.priority a.1.priority) (nat_cmp a.0 b.0)

precedence_total : IsTotalOrder precedence
precedence_total = then_total (on_total (λ (r : Numbered). r.1.priority) (back_total nat_cmp_total)) (on_total (λ (r : Numbered). r.0) nat_cmp_total)

rules_sorted : (xs : List Numbered) → AllPairs (λ a b. precedes a b ≡ true) xs → IsStrictlySortedBy precedence xs
rules_sorted [] order =
    sorted_from_all_adjacent precedence_total [] (0, record { at = 0; priority = 0; inp = model.AnyPort; pattern = []; action = model.Drop }) (λ k below. absurd (omega arith))
rules_sorted (x ∷ xs) order = sorted_from_all_adjacent precedence_total (x ∷ xs) x
    (λ k below. first (get_or (x ∷ xs) k x) (get_or (x ∷ xs) (k + 1) x) (order k (k + 1) x (omega arith) below))
  where
    first : (a b : Numbered) → precedes a b ≡ true → precedence a b ≡ Less
    first a b before = grind (arith, nat_tests, before)

module _ (mine theirs : List Numbered) (box : ℕ) (xs ys : List Numbered) (all_x : (r : Numbered) → Contains xs r ↔ (Contains mine r × (r.1.at ≡ box))) (all_y : (r : Numbered) → Contains ys r ↔ (Contains theirs r × (r.1.at ≡ box))) where
  pub same_rules : xs ≡ ys → (r : Numbered) → r.1.at ≡ box → Contains mine r ↔ Contains theirs r
  same_rules same r at = (
    λ here. ((all_y r).0 (subst (λ l. Contains l r) same ((all_x r).1 (here, at)))).0,
    λ there. ((all_x r).0 (subst (λ l. Contains l r) (sym same) ((all_y r).1 (there, at)))).0,
  )

  pub rule_lists : AllPairs (λ a b. precedes a b ≡ true) xs → AllPairs (λ a b. precedes a b ≡ true) ys → ((r : Numbered) → r.1.at ≡ box → Contains mine r ↔ Contains theirs r) → xs ≡ ys
  rule_lists order_x order_y each = same_from_sorted precedence_total xs ys (rules_sorted xs order_x) (rules_sorted ys order_y)
      (λ r here. (let (of_mine, at) = (all_x r).0 here in (all_y r).1 ((each r at).0 of_mine, at)))
      (λ r there. (let (of_theirs, at) = (all_y r).0 there in (all_x r).1 ((each r at).1 of_theirs, at)))

-- ---- the terminal at a port
abbrev pub placed : ℕ × model.Terminal → ℕ × model.Role
placed t = (t.0, t.1.role)

pub terminal_found : (port : ℕ) (ts : List Terminal) → option_map (λ (t : Terminal). placed (terminal_of t)) (find (λ (t : Terminal). eqb t.port port) ts) ≡ option_map placed (find (λ (t : ℕ × model.Terminal). eqb t.1.port port) (map terminal_of ts))
terminal_found port ts =
    joined (find (λ (t : Terminal). eqb t.port port) ts)
    ∙ ap (option_map placed) (find-map terminal_of (λ (t : Terminal). eqb t.port port) (λ (t : ℕ × model.Terminal). eqb t.1.port port) ts (λ k d below. refl))
  where
    joined : (o : Option Terminal) → option_map (λ (t : Terminal). placed (terminal_of t)) o ≡ option_map placed (option_map terminal_of o)
    joined None = refl
    joined (Some t) = refl
