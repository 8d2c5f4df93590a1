-- The links of a network, each declared at its lower port, where boxes and ports stand.
use Rattle.std.proofs.Common.{◌≡◌, ℕ, ◌<◌, Bool, true, false, cond, ◌||◌, eqb, ltb, List, [], ◌∷◌, map, Option, Some, None, sym, ap, ◌∙◌, refl, inl, inr, arith}
use Rattle.std.specs.Prelude.{nat_lt, not, ◌&&◌}
use Rattle.std.specs.List.{All, AllPairs, filter, list_any}
use Rattle.std.specs.Option.{is_some}
use Rattle.std.proofs.lemmas.Bool.{cases_Bool, cond_both, cond-true, cond-false, ne_eqb, eq-eqb, eqb-true, ltb-true, ltb-false, lt-ltb, or_left, or_right, or_from, and_from}
use Rattle.std.proofs.lemmas.List.Elements.{All-cons, All-head, All-tail, All-filter, filter_passes}
use Rattle.std.proofs.lemmas.List.Folds.{list_any_none}
use Rattle.std.proofs.lemmas.List.Kept.{AllPairs-filter}
use Rattle.network_model.specs.Network.{Network, value_at}
use Rattle.network_model.specs.Building.{put}
use Rattle.network_model.specs.WellFormed.{Rises, IsWellFormed}
use Rattle.net_types.specs.Refusals.{Unknown, LinkTaken}
use Rattle.model_laws.proofs.Numbered.{AllPairs-heads, AllPairs-tail, rises_tail, rises_put, value_at-put}
use Rattle.net_text.specs.Declarations.{DeclareLink}
use Rattle.net_text.specs.Printing.{links_of}
use Rattle.net_text.proofs.Takes.{TakesAll}
use Rattle.net_text.proofs.Rising.{Under, rising_pairs, own_value, same_maps}
use Rattle.net_text.proofs.RebuiltPlaces.{passes, ports_so_far}

-- the network of all boxes and ports and these links
abbrev pub links_so_far : Network → List (ℕ × ℕ) → Network
links_so_far net links = record (ports_so_far net net.ports) { links = links }

-- a link of the network, at its lower port
record IsLink (net : Network) (l : ℕ × ℕ) : Type 0 where
  low : l.0 < l.1
  there : value_at net.links l.0 ≡ Some l.1

-- a link has the port
abbrev touches : ℕ → ℕ × ℕ → Bool
touches q l = eqb l.0 q || eqb l.1 q

-- ---- the declared links are links of the network
-- each entry is found at its number
all_own : {A : Type 0} (es : List (ℕ × A)) → Rises es → All (λ e. value_at es e.0 ≡ Some e.1) es
all_own [] h = λ k d within. absurd (omega arith)
all_own {A} (e ∷ es) h =
    let Own : ℕ × A → Type 0 = λ d. value_at (e ∷ es) d.0 ≡ Some d.1 in
    let later = all_own es (rises_tail e es h) in
    let above = AllPairs-heads Under e es (rising_pairs (e ∷ es) h) in
    All-cons Own e es (own_value e es) (λ k d within.
    let high = above k d within in
    cond-false (eqb e.0 _) (Some e.1) (value_at es _) (ne_eqb e.0 _ (λ same. omega arith)) ∙ later k d within)

declared_links : (net : Network) → IsWellFormed net → All (IsLink net) (filter (λ l. nat_lt l.0 l.1) net.links)
declared_links net formed =
    let Own : ℕ × ℕ → Type 0 = λ l. value_at net.links l.0 ≡ Some l.1 in
    let lower : ℕ × ℕ → Bool = λ l. nat_lt l.0 l.1 in
    let own = All-filter lower Own net.links (all_own net.links formed.links) in
    let low = filter_passes lower net.links in
    λ k d within. record { low = ltb-true _ _ (low k d within); there = own k d within }

-- ---- every link is declared
-- an entry that is kept and passes the test shows that one of those kept does
any_kept : (p keep : ℕ × ℕ → Bool) (ls : List (ℕ × ℕ)) (q y : ℕ) → value_at ls q ≡ Some y → keep (q, y) ≡ true → p (q, y) ≡ true
    → list_any p (filter keep ls) ≡ true
any_kept p keep [] q y here kept own = absurd (cc)
any_kept p keep (l ∷ ls) q y here kept own = elim (cases_Bool (eqb l.0 q)) [
  | inl at ↦
      let value : Some l.1 ≡ Some y = sym (cond-true (eqb l.0 q) (Some l.1) (value_at ls q) at) ∙ here in
      let second : l.1 ≡ y = cc in
      let same : (q, y) ≡ l = ap (λ n. (n, y)) (sym (eqb-true l.0 q at)) ∙ ap (λ n. (l.0, n)) (sym second) in
      ap (list_any p) (cond-true (keep l) (l ∷ filter keep ls) (filter keep ls) (ap keep (sym same) ∙ kept))
      ∙ or_left (p l) (list_any p (filter keep ls)) (ap p (sym same) ∙ own)
  | inr other ↦
      let later = any_kept p keep ls q y (sym (cond-false (eqb l.0 q) (Some l.1) (value_at ls q) other) ∙ here) kept own in
      cond_both (keep l) (l ∷ filter keep ls) (filter keep ls) (λ xs. list_any p xs ≡ true)
      (λ _. or_right (p l) (list_any p (filter keep ls)) later) (λ _. later)
]

linked_declared : (net : Network) → IsWellFormed net → (q y : ℕ) → value_at net.links q ≡ Some y
    → list_any (touches q) (filter (λ l. nat_lt l.0 l.1) net.links) ≡ true
linked_declared net formed q y here =
    let joined = formed.joined q y here in
    let lower : ℕ × ℕ → Bool = λ l. nat_lt l.0 l.1 in
    elim (cases_Bool (ltb q y)) [
      | inl low ↦ any_kept (touches q) lower net.links q y here low (or_left (eqb q q) (eqb y q) (eq-eqb q q refl))
      | inr high ↦
          let other = joined.other in
          let most = ltb-false q y high in
          let less : y < q = omega arith in
          any_kept (touches q) lower net.links y q joined.back (lt-ltb y q less) (or_right (eqb y q) (eqb q q) (eq-eqb q q refl))
    ]

-- these links are those of the network without the rest, which are still to be declared
abbrev Left : Network → List (ℕ × ℕ) → List (ℕ × ℕ) → Type 0
Left net rest links = (q : ℕ) → value_at links q ≡ cond (list_any (touches q) rest) None (value_at net.links q)

-- nothing is what there is, where all that there is, is left out
linked_none : (o : Option ℕ) (b : Bool) → ((y : ℕ) → o ≡ Some y → b ≡ true) → None ≡ cond b None o
linked_none None true h = refl
linked_none None false h = refl
linked_none (Some y) true h = refl
linked_none (Some y) false h = let wrong = h y refl in absurd (cc)

none_yet : (net : Network) → IsWellFormed net → Left net (filter (λ l. nat_lt l.0 l.1) net.links) []
none_yet net formed q = linked_none (value_at net.links q) _ (λ y here. linked_declared net formed q y here)

-- ---- one more link
-- a later link has neither port
touched_low : (net : Network) (l m : ℕ × ℕ) → IsLink net m → l.0 < m.0 → touches l.0 m ≡ false
touched_low net l m other above =
    let high = other.low in
    or_from (eqb m.0 l.0) (eqb m.1 l.0) (ne_eqb m.0 l.0 (λ same. omega arith)) (ne_eqb m.1 l.0 (λ same. omega arith))

-- the same of the higher port
touched_high : (net : Network) → IsWellFormed net → (l m : ℕ × ℕ) → IsLink net l → IsLink net m → l.0 < m.0 → touches l.1 m ≡ false
touched_high net formed l m is other above =
    let low = is.low in
    let high = other.low in
    let back = (formed.joined l.0 l.1 is.there).back in
    let forth = (formed.joined m.0 m.1 other.there).back in
    or_from (eqb m.0 l.1) (eqb m.1 l.1)
    (ne_eqb m.0 l.1 (λ same.
    let two : Some l.0 ≡ Some m.1 = sym back ∙ ap (λ n. value_at net.links n) (sym same) ∙ other.there in
    let wrong : l.0 ≡ m.1 = cc in omega arith))
    (ne_eqb m.1 l.1 (λ same.
    let two : Some l.0 ≡ Some m.0 = sym back ∙ ap (λ n. value_at net.links n) (sym same) ∙ forth in
    let wrong : l.0 ≡ m.0 = cc in omega arith))

-- the rest have neither port of the first
untouched : (net : Network) → IsWellFormed net → (l : ℕ × ℕ) (rest : List (ℕ × ℕ)) → All (IsLink net) (l ∷ rest) → AllPairs Under (l ∷ rest)
    → (list_any (touches l.0) rest ≡ false) × (list_any (touches l.1) rest ≡ false)
untouched net formed l rest are rising =
    let is = All-head (IsLink net) l rest are in
    let later = All-tail (IsLink net) l rest are in
    let above = AllPairs-heads Under l rest rising in (
      list_any_none (touches l.0) rest (λ k d within. touched_low net l _ (later k d within) (above k d within)),
      list_any_none (touches l.1) rest (λ k d within. touched_high net formed l _ is (later k d within) (above k d within)),
    )

-- a look-up after both directions were put
after_both : (q a b : ℕ) (others : Bool) (old whole : Option ℕ) → (a ≡ q → (others ≡ false) × (whole ≡ Some b))
    → (b ≡ q → (others ≡ false) × (whole ≡ Some a))
    → old ≡ cond ((eqb a q || eqb b q) || others) None whole
    → cond (eqb a q) (Some b) (cond (eqb b q) (Some a) old) ≡ cond others None whole
after_both q a b others old whole at_a at_b was = elim (cases_Bool (eqb a q)) [
  | inl same ↦
      let own = at_a (eqb-true a q same) in
      cond-true (eqb a q) (Some b) _ same ∙ sym (cond-false others None whole own.0 ∙ own.1)
  | inr apart ↦
      cond-false (eqb a q) (Some b) _ apart
      ∙ (elim (cases_Bool (eqb b q)) [
        | inl same ↦
            let own = at_b (eqb-true b q same) in
            cond-true (eqb b q) (Some a) _ same ∙ sym (cond-false others None whole own.0 ∙ own.1)
        | inr far ↦
            cond-false (eqb b q) (Some a) _ far ∙ was
            ∙ ap (λ t. cond (t || others) None whole) (or_from (eqb a q) (eqb b q) apart far)
      ])
]

-- both ports of a link are free before it
free_before : (net : Network) (l : ℕ × ℕ) (rest links : List (ℕ × ℕ)) → Left net (l ∷ rest) links
    → (value_at links l.0 ≡ None) × (value_at links l.1 ≡ None)
free_before net l rest links left =
    let own = or_left (touches l.0 l) (list_any (touches l.0) rest) (or_left (eqb l.0 l.0) (eqb l.1 l.0) (eq-eqb l.0 l.0 refl)) in
    let other = or_left (touches l.1 l) (list_any (touches l.1) rest) (or_right (eqb l.0 l.1) (eqb l.1 l.1) (eq-eqb l.1 l.1 refl)) in
    (left l.0 ∙ cond-true _ None (value_at net.links l.0) own, left l.1 ∙ cond-true _ None (value_at net.links l.1) other)

-- the lower port is free after the other direction was put
inner_free : (a b : ℕ) (links : List (ℕ × ℕ)) → a < b → value_at links a ≡ None → value_at links b ≡ None → value_at (put b a links) a ≡ None
inner_free a b links low no_a no_b =
    value_at-put b a links a no_b ∙ cond-false (eqb b a) (Some a) (value_at links a) (ne_eqb b a (λ same. omega arith)) ∙ no_a

-- what is left after one more link
left_after : (net : Network) → IsWellFormed net → (l : ℕ × ℕ) (rest links : List (ℕ × ℕ)) → All (IsLink net) (l ∷ rest) → AllPairs Under (l ∷ rest)
    → Left net (l ∷ rest) links
    → Left net rest (put l.0 l.1 (put l.1 l.0 links))
left_after net formed l rest links are rising left q =
    let is = All-head (IsLink net) l rest are in
    let free = free_before net l rest links left in
    let inner = inner_free l.0 l.1 links is.low free.0 free.1 in
    let clear = untouched net formed l rest are rising in
    let back = (formed.joined l.0 l.1 is.there).back in
    let whole : ℕ → Option ℕ = λ n. value_at net.links n in
    value_at-put l.0 l.1 (put l.1 l.0 links) q inner
    ∙ ap (λ o. cond (eqb l.0 q) (Some l.1) o) (value_at-put l.1 l.0 links q free.1)
    ∙ after_both q l.0 l.1 (list_any (touches q) rest) (value_at links q) (value_at net.links q)
    (λ same. (ap (λ n. list_any (touches n) rest) (sym same) ∙ clear.0, ap whole (sym same) ∙ is.there))
    (λ same. (ap (λ n. list_any (touches n) rest) (sym same) ∙ clear.1, ap whole (sym same) ∙ back))
    (left q)

-- one more link is not refused
link_due : (net : Network) → IsWellFormed net → (l : ℕ × ℕ) (rest links : List (ℕ × ℕ)) → IsLink net l → Left net (l ∷ rest) links
    → cond (not (is_some (value_at net.ports l.0) && is_some (value_at net.ports l.1))) (Some Unknown)
    (cond (eqb l.0 l.1 || (is_some (value_at links l.0) || is_some (value_at links l.1))) (Some LinkTaken) None) ≡ None
link_due net formed l rest links is left =
    let low = is.low in
    let joined = formed.joined l.0 l.1 is.there in
    let free = free_before net l rest links left in
    passes _ Unknown _ (ap not (and_from _ _ joined.port (formed.joined l.1 l.0 joined.back).port))
    (passes _ LinkTaken _ (or_from _ _ (ne_eqb l.0 l.1 (λ same. omega arith)) (or_from _ _ (ap is_some free.0) (ap is_some free.1))) refl)

-- all links that are left
links_from : (net : Network) → IsWellFormed net → (rest links : List (ℕ × ℕ)) → All (IsLink net) rest → AllPairs Under rest → Rises links
    → Left net rest links
    → TakesAll (links_so_far net links) (map (λ l. DeclareLink l.0 l.1) rest) (links_so_far net net.links)
links_from net formed [] links are rising rises left = ap (links_so_far net) (same_maps links net.links rises formed.links left)
links_from net formed (l ∷ rest) links are rising rises left =
    let is = All-head (IsLink net) l rest are in
    let free = free_before net l rest links left in
    let inner = inner_free l.0 l.1 links is.low free.0 free.1 in
    let next = put l.0 l.1 (put l.1 l.0 links) in
    let still = rises_put l.0 l.1 (put l.1 l.0 links) inner (rises_put l.1 l.0 links free.1 rises) in (
      link_due net formed l rest links is left,
      links_from net formed rest next (All-tail (IsLink net) l rest are) (AllPairs-tail Under l rest rising) still
          (left_after net formed l rest links are rising left),
    )

pub links_taken : (net : Network) → IsWellFormed net → TakesAll (ports_so_far net net.ports) (links_of net.links) (links_so_far net net.links)
links_taken net formed =
    let lower : ℕ × ℕ → Bool = λ l. nat_lt l.0 l.1 in
    links_from net formed (filter lower net.links) [] (declared_links net formed)
    (AllPairs-filter Under lower net.links (rising_pairs net.links formed.links)) (λ k within. absurd (omega arith)) (none_yet net formed)
