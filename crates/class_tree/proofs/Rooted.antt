-- The classes of terminals before their headers met a rule.
use Rattle.std.specs.Prelude.{IsTrue}
use Rattle.std.proofs.Common.{◌≡◌, ℕ, zero, suc, ◌+◌, ◌-◌, ◌<◌, ◌≤◌, Bool, true, false, List, [], ◌∷◌, ◌++◌, length, map, take, get_or, Option, Some, None, refl, sym, ap, ◌∙◌, subst, ⊎_elim, arith, lit<}
use Rattle.std.specs.List.{Contains, All, slice_get}
use Rattle.std.specs.List.Sorted.{IsStrictlyIncreasing}
use Rattle.std.proofs.lemmas.Bool.{cases_lt}
use Rattle.std.proofs.lemmas.List.{map-append, get_or-map, get_or_append_left, get_or-append_right, get_or-take, length-take, length-map, length-append}
use Rattle.std.proofs.lemmas.List.Elements.{All-append, Contains-append_left, Contains-append_right, Contains-append_cases}
use Rattle.std.proofs.lemmas.List.Kept.{AllPairs-from_increasing}
use Rattle.std.proofs.lemmas.Option.{slice_get_within, get_or_from_slice_get}
use Rattle.network_model.proofs.SomeTable.{value_there, permitted_there}
use Rattle.list_laws.proofs.Members.{Contains-one}
use Rattle.list_laws.proofs.Places.{take_next, take_whole}
use Rattle.network_model.specs.Bits.{Header}
use Rattle.network_model.specs.Rewrites.{kept, rewritten}
use Rattle.network_model.specs.Network.{Network, Terminal, Role, value_at}
use Rattle.network_model.specs.Walk.{Stand}
use Rattle.network_model.specs.Classes.{permits, terminal_permits}
use Rattle.network_model.specs.Prefixes.{stand_at, stand_from, Stands}
use Rattle.network_model.specs.WellFormed.{IsWellFormed}
use Rattle.network_model.proofs.RewriteLaws.{length-kept, rewritten-kept}
use Rattle.network_model.proofs.SomeClass.{permitted_width}
use Rattle.net_types.specs.Terminals.{place_of}
use Rattle.header_sets.specs.Spaces.{SpaceValue, holds}
use Rattle.class_tree.specs.declared.class.Class.{Class}
use Rattle.class_tree.specs.Roots.{IsRoot, AreAmong, AreRoots}

abbrev port_of : Option (ℕ × Role) → ℕ
port_of None = 0
port_of (Some place) = place.0

-- a terminal's header stands at its port before any rule
root_stand : (net : Network) (t port : ℕ) (role : Role) (h : Header) → place_of (value_at net.terminals t) ≡ Some (port, role) → stand_from net 0 t h ≡ Some (record { rules = []; port = port; header = h })
root_stand net t port role h e = at (value_at net.terminals t) e
  where
    at : (o : Option Terminal) → place_of o ≡ Some (port, role) → stand_at net 0 o h ≡ Some (record { rules = []; port = port; header = h })
    at None e = cc
    at (Some s) e = let same : s.port ≡ port = ap port_of e in ap (λ p. Some (record { rules = []; port = p; header = h })) same

one_stand : (a b : Stand) → Some a ≡ Some b → a ≡ b
one_stand a b e = cc

pub root_is : (net : Network) → IsWellFormed net → (t port : ℕ) (role : Role) (space : SpaceValue) → place_of (value_at net.terminals t) ≡ Some (port, role) → space.width ≡ net.width →
    ((h : Header) → holds space h ≡ permits net t h) → ((h : Header) × IsTrue (holds space h)) → IsRoot net t (record { «from» = t; port = port; space = space; rewrite = kept net.width; rules = [] })
root_is net fits t port role space placed width set some = record {
  starts = refl;
  empty = refl;
  belongs = record {
    space_width = width;
    rewrite_width = length-kept net.width;
    headers = λ h. (
      λ held. record { permitted = sym (set h) ∙ held; place = record { rules = []; port = port; header = h }; stands = root_stand net t port role h placed; met = refl },
      λ s. set h ∙ s.permitted,
    );
    port = λ h s. ap (λ (p : Stand). p.port) (here h s);
    become = λ h s. ap (λ (p : Stand). p.header) (here h s) ∙ sym (subst (λ w. rewritten (kept w) h ≡ h) (permitted_width net fits t h s.permitted) (rewritten-kept h));
  };
  some = (some.0, sym (set some.0) ∙ some.1);
}
  where
    here : (h : Header) (s : Stands net t [] h) → s.place ≡ record { rules = []; port = port; header = h }
    here h s = one_stand s.place (record { rules = []; port = port; header = h }) (sym s.stands ∙ root_stand net t port role h placed)

-- a terminal that isn't there sends nothing
pub none_permitted : (net : Network) (t : ℕ) (h : Header) → place_of (value_at net.terminals t) ≡ None → permits net t h ≡ false
none_permitted net t h e = at (value_at net.terminals t) e
  where
    at : (o : Option Terminal) → place_of o ≡ None → terminal_permits o h ≡ false
    at None e = refl
    at (Some s) e = cc

-- numbers that rise, and a greater one
increasing_snoc : (xs : List ℕ) (x : ℕ) → IsStrictlyIncreasing xs → All (λ y. y < x) xs → IsStrictlyIncreasing (xs ++ x ∷ [])
increasing_snoc xs x rises below k inside =
    let n : length (xs ++ x ∷ []) ≡ length xs + 1 = length-append xs (x ∷ []) in
    let first : k < length xs = omega arith in
    let at_k : get_or (xs ++ x ∷ []) k 0 ≡ get_or xs k 0 = get_or_append_left xs (x ∷ []) 0 k first in
    ⊎_elim
    (λ (more : k + 1 < length xs).
    let at_next : get_or (xs ++ x ∷ []) (k + 1) 0 ≡ get_or xs (k + 1) 0 = get_or_append_left xs (x ∷ []) 0 (k + 1) more in
    let less : get_or xs k 0 < get_or xs (k + 1) 0 = rises k more in
    subst (λ a. a < get_or (xs ++ x ∷ []) (k + 1) 0) (sym at_k) (subst (λ b. get_or xs k 0 < b) (sym at_next) less))
    (λ (last : length xs ≤ k + 1).
    let end : k + 1 - length xs ≡ 0 = omega arith in
    let at_next : get_or (xs ++ x ∷ []) (k + 1) 0 ≡ x = get_or-append_right xs (x ∷ []) (length xs) (k + 1) 0 refl last ∙ ap (λ i. get_or (x ∷ []) i 0) end in
    let less : get_or xs k 0 < x = below k 0 first in
    subst (λ a. a < get_or (xs ++ x ∷ []) (k + 1) 0) (sym at_k) (subst (λ b. get_or xs k 0 < b) (sym at_next) less))
    (cases_lt (k + 1) (length xs))

-- numbers before a place are lesser
below_place : (xs : List ℕ) → IsStrictlyIncreasing xs → (i x : ℕ) → slice_get xs i ≡ Some x → (y : ℕ) → Contains (take i xs) y → y < x
below_place xs rises i x at y there =
    let k = there.0 in
    let n : length (take i xs) ≤ i = omega (arith, length-take i xs) in
    let before : k < i = omega (arith, there.1) in
    let inside : i < length xs = slice_get_within xs i x at in
    let first : get_or xs k y ≡ y = sym (get_or-take i xs k y before) ∙ there.2 in
    let second : get_or xs i y ≡ x = get_or_from_slice_get xs i x y at in
    let less : get_or xs k y < get_or xs i y = AllPairs-from_increasing xs rises k i y before inside in
    subst (λ a. a < x) first (subst (λ b. get_or xs k y < b) second less)

abbrev starts_of : List Class → List ℕ
starts_of classes = map (λ (class : Class). class.«from») classes

pub among_none : (net : Network) → AreAmong net [] []
among_none net = record {
  each = λ k d inside. absurd (omega arith);
  among = λ k d inside. absurd (omega arith);
  rises = λ k inside. absurd (omega arith);
  complete = λ start there some. absurd (let inside = there.1 in omega arith);
}

-- one more terminal, which sends some header
pub among_more : (net : Network) → IsWellFormed net → (i next : ℕ) (classes : List Class) (root : Class) → slice_get (map (λ (t : ℕ × Terminal). t.0) net.terminals) i ≡ Some next → IsRoot net next root →
    AreAmong net (take i (map (λ (t : ℕ × Terminal). t.0) net.terminals)) classes → AreAmong net (take (i + 1) (map (λ (t : ℕ × Terminal). t.0) net.terminals)) (classes ++ root ∷ [])
among_more net fits i next classes root at is before =
    subst (λ l. AreAmong net l (classes ++ root ∷ [])) (sym (take_next ids i next at)) (record {
      each = All-append (λ (class : Class). IsRoot net class.«from» class) classes (root ∷ []) before.each (single (λ (class : Class). IsRoot net class.«from» class) root (subst (λ t. IsRoot net t root) (sym is.starts) is));
      among = All-append (λ (class : Class). Contains (take i ids ++ next ∷ []) class.«from») classes (root ∷ [])
          (λ k d inside. Contains-append_left (take i ids) (next ∷ []) (get_or classes k d).«from» (before.among k d inside))
          (single (λ (class : Class). Contains (take i ids ++ next ∷ []) class.«from») root (Contains-append_right (take i ids) (next ∷ []) root.«from» (0, lit< tt, sym is.starts)));
      rises = subst (λ l. IsStrictlyIncreasing l) (sym starts) (increasing_snoc (starts_of classes) root.«from» before.rises below);
      complete = λ start there some. subst (λ l. Contains l start) (sym starts) (⊎_elim
          (λ here. Contains-append_left (starts_of classes) (root.«from» ∷ []) start (before.complete start here some))
          (λ here. Contains-append_right (starts_of classes) (root.«from» ∷ []) start (0, lit< tt, is.starts ∙ sym (Contains-one next start here)))
          (Contains-append_cases (take i ids) (next ∷ []) start there));
    })
  where
    ids : List ℕ
    ids = map (λ (t : ℕ × Terminal). t.0) net.terminals

    starts : starts_of (classes ++ root ∷ []) ≡ starts_of classes ++ root.«from» ∷ []
    starts = map-append (λ (class : Class). class.«from») classes (root ∷ [])

    single : (P : Class → Type 0) (x : Class) → P x → All P (x ∷ [])
    single P x p zero d inside = p
    single P x p (suc k) d inside = absurd (omega arith)

    below : All (λ y. y < root.«from») (starts_of classes)
    below k d inside =
        let n : length (starts_of classes) ≡ length classes = length-map classes (λ (class : Class). class.«from») in
        let within : k < length classes = omega arith in
        let here : Contains (take i ids) (get_or classes k root).«from» = before.among k root within in
        let less : (get_or classes k root).«from» < next = below_place ids fits.terminals i next at (get_or classes k root).«from» here in
        subst (λ a. a < root.«from») (sym (get_or-map (λ (class : Class). class.«from») classes k root d within)) (subst (λ b. (get_or classes k root).«from» < b) (sym is.starts) less)

-- one more terminal, which sends none
pub among_same : (net : Network) → (i next : ℕ) (classes : List Class) → slice_get (map (λ (t : ℕ × Terminal). t.0) net.terminals) i ≡ Some next → ((h : Header) → permits net next h ≡ false) →
    AreAmong net (take i (map (λ (t : ℕ × Terminal). t.0) net.terminals)) classes → AreAmong net (take (i + 1) (map (λ (t : ℕ × Terminal). t.0) net.terminals)) classes
among_same net i next classes at silent before =
    subst (λ l. AreAmong net l classes) (sym (take_next ids i next at)) (record {
      each = before.each;
      among = λ k d inside. Contains-append_left (take i ids) (next ∷ []) (get_or classes k d).«from» (before.among k d inside);
      rises = before.rises;
      complete = λ start there some. ⊎_elim
          (λ here. before.complete start here some)
          (λ here. absurd (no (permits net start some.0) some.1 (subst (λ t. permits net t some.0 ≡ false) (sym (Contains-one next start here)) (silent some.0))))
          (Contains-append_cases (take i ids) (next ∷ []) start there);
    })
  where
    ids : List ℕ
    ids = map (λ (t : ℕ × Terminal). t.0) net.terminals

    no : (b : Bool) → b ≡ true → b ≡ false → ⊥
    no b so not_so = cc

-- the end of the terminals
pub among_all : (net : Network) (i : ℕ) (classes : List Class) → slice_get (map (λ (t : ℕ × Terminal). t.0) net.terminals) i ≡ None →
    AreAmong net (take i (map (λ (t : ℕ × Terminal). t.0) net.terminals)) classes → AreRoots net classes
among_all net i classes ended before = record {
  belong = λ k d inside. (before.each k d inside).belongs;
  empty = λ k d inside. (before.each k d inside).empty;
  rises = before.rises;
  exact = λ start. (
    λ there.
        let k = there.0 in
        let n : length (starts_of classes) ≡ length classes = length-map classes (λ (class : Class). class.«from») in
        some_at start k (omega (arith, there.1)) there.2,
    λ some. before.complete start (subst (λ l. Contains l start) (sym (take_whole ids i ended)) (value_there net.terminals start (permitted_there net start some.0 some.1))) some,
  );
}
  where
    ids : List ℕ
    ids = map (λ (t : ℕ × Terminal). t.0) net.terminals

    some_at : (start k : ℕ) → k < length classes → get_or (starts_of classes) k start ≡ start → (h : Header) × IsTrue (permits net start h)
    some_at start k within same = at_class classes k within before.each same
      where
        at_class : (list : List Class) (k : ℕ) → k < length list → All (λ (class : Class). IsRoot net class.«from» class) list → get_or (starts_of list) k start ≡ start → (h : Header) × IsTrue (permits net start h)
        at_class [] k inside all e = absurd (omega arith)
        at_class (x ∷ xs) k inside all e =
            let is = all k x inside in
            let same : (get_or (x ∷ xs) k x).«from» ≡ start = sym (get_or-map (λ (class : Class). class.«from») (x ∷ xs) k x start inside) ∙ e in
            (is.some.0, subst (λ t. permits net t is.some.0 ≡ true) same is.some.1)
