-- What the classes of some terminals come to, of one more, and of all that send.
use Rattle.std.proofs.Common.{◌≡◌, ◌≢◌, ◌⊎◌, ℕ, ◌+◌, ◌-◌, ◌^◌, ◌<◌, ◌≤◌, List, [], ◌∷◌, ◌++◌, length, map, min, take, get_or, refl, sym, ap, ◌∙◌, subst, ⊎_elim, arith, lit<}
use Rattle.std.specs.List.{Contains}
use Rattle.std.specs.List.Sorted.{IsStrictlyIncreasing}
use Rattle.std.proofs.lemmas.List.{length-map, length-take, get_or-map, get_or-take, take_all, take_more}
use Rattle.std.proofs.lemmas.List.Elements.{All-cons, All-map, All-weaker, Contains-append_left, Contains-append_right, Contains-append_cases}
use Rattle.std.proofs.lemmas.List.Kept.{AllPairs-cons, AllPairs-from_increasing}
use Rattle.list_laws.proofs.Pairs.{AllPairs-map}
use Rattle.list_laws.proofs.Members.{Contains-cons_later, Contains-map, Contains-one}
use Rattle.network_model.specs.Bits.{Header}
use Rattle.network_model.specs.Network.{Network}
use Rattle.network_model.specs.Classes.{Member}
use Rattle.network_model.specs.Prefixes.{IsFurther, IsPrefix, IsPrefixNumber}
use Rattle.network_model.specs.Table.{Entry, HasMore, IsOver}
use Rattle.model_laws.proofs.PrefixLaws.{number_same, number_joined}
use Rattle.path_table.specs.Entries.{entry_of, IsFound}
use Rattle.path_table.proofs.JoinedEntries.{entries_same, entries_joined, all_entries, more_joined}
use Rattle.class_tree.specs.declared.class.Class.{Class}
use Rattle.class_tree.specs.declared.growth.Grown.{Grown}
use Rattle.class_tree.specs.Belonging.{Belongs}
use Rattle.class_tree.specs.Roots.{IsRoot, AreRoots}
use Rattle.class_tree.specs.Growth.{GoesOnFrom, IsMade, IsGrown}
use Rattle.class_tree.specs.Searched.{StartsAmong, IsSearched}
use Rattle.model_laws.proofs.RootLists.{member_further, prefix_cases, root_prefix}

one_there : (t : ℕ) → Contains (t ∷ []) t
one_there t = (0, lit< tt, refl)

-- ---- no terminal, and one

pub none_searched : (net : Network) (hops : ℕ) → IsSearched net hops [] [] 0
none_searched net hops = record {
  found = record {
    each = λ k d inside. absurd (omega arith);
    apart = λ i j d less inside. absurd (omega arith);
    classes = λ k d inside. absurd (omega arith);
    complete = λ start to rules header arrives there m. absurd (let inside = there.1 in omega arith);
  };
  prefixes = record {
    pairs = [];
    are = record {
      different = λ i j d less inside. absurd (omega arith);
      sound = λ k d inside. absurd (omega arith);
      complete = λ start rules there begins. absurd (let inside = there.1 in omega arith);
    };
    counted = refl;
  };
}

-- the prefixes of one terminal: no rule, and those that go on from it
root_prefixes : (net : Network) (hops : ℕ) (class : Class) (made : ℕ) → IsRoot net class.«from» class → IsMade net hops class.«from» [] hops made
    → IsPrefixNumber net hops (StartsAmong (class.«from» ∷ [])) (min (1 + made) (2 ^ 64 - 1))
root_prefixes net hops class made root is = record {
  pairs = pair [] ∷ map pair is.lists;
  are = record {
    different = AllPairs-cons (λ (a b : ℕ × List ℕ). a ≢ b) (pair []) (map pair is.lists)
        (All-map (λ (b : ℕ × List ℕ). pair [] ≢ b) pair is.lists (All-weaker (IsFurther [] hops) (λ rules. pair [] ≢ pair rules) not_none is.lists is.further))
        (AllPairs-map pair (λ (a b : ℕ × List ℕ). a ≢ b) is.lists (λ i j d less inside same. is.different i j d less inside (ap (λ (p : ℕ × List ℕ). p.1) same)));
    sound = All-cons IsSound (pair []) (map pair is.lists) (one_there class.«from», root_prefix net hops class.«from» root.some.0 root.some.1)
        (All-map IsSound pair is.lists (All-weaker (IsPrefix net hops class.«from») (λ rules. IsSound (pair rules)) (λ rules begins. (one_there class.«from», begins)) is.lists is.prefix));
    complete = λ start rules there begins.
        let one : start ≡ class.«from» = Contains-one class.«from» start there in
        let own : IsPrefix net hops class.«from» rules = subst (λ s. IsPrefix net hops s rules) one begins in
        let here : Contains (pair [] ∷ map pair is.lists) (pair rules) =
        ⊎_elim
        (λ none. (0, omega arith, ap pair none))
        (λ far. Contains-cons_later (pair []) (pair rules) (map pair is.lists) (Contains-map pair is.lists rules (is.complete rules own far)))
        (prefix_cases net hops class.«from» rules own) in
        subst (λ s. Contains (pair [] ∷ map pair is.lists) (s, rules)) (sym one) here;
  };
  counted = omega (arith, is.counted, length-map is.lists pair);
}
  where
    pair : List ℕ → ℕ × List ℕ
    pair rules = (class.«from», rules)

    IsSound : ℕ × List ℕ → Type 0
    IsSound p = Contains (class.«from» ∷ []) p.0 × IsPrefix net hops p.0 p.1

    not_none : (rules : List ℕ) → IsFurther [] hops rules → pair [] ≢ pair rules
    not_none rules far same =
        let none : [] ≡ rules = ap (λ (p : ℕ × List ℕ). p.1) same in
        let long : length rules ≡ far.count = ap length far.extends.begins ∙ far.extends.long in
        let short : 0 ≡ length rules = ap length none in
        omega (arith, far.some)

-- a list of the root's terminal that is delivered goes on from no rule
root_goes_on : (net : Network) (hops : ℕ) (class : Class) → class.rules ≡ [] → (start to : ℕ) (rules : List ℕ) (header arrives : Header)
    → StartsAmong (class.«from» ∷ []) start rules → Member net hops start rules to header arrives → GoesOnFrom class hops start rules
root_goes_on net hops class empty start to rules header arrives there m =
    (Contains-one class.«from» start there, subst (λ l. IsFurther l hops rules) (sym empty) (member_further net hops start to rules header arrives m))

-- the class of a terminal's headers comes to what these come to
pub root_searched : (net : Network) (hops : ℕ) (class : Class) (grown : Grown) → IsRoot net class.«from» class → IsGrown net hops class hops grown
    → IsSearched net hops (class.«from» ∷ []) (map entry_of grown.found.items) (min (1 + grown.made) (2 ^ 64 - 1))
root_searched net hops class grown root is = record {
  found = entries_same net hops (GoesOnFrom class hops) (StartsAmong (class.«from» ∷ [])) (map entry_of grown.found.items)
      (λ start rules far. subst (λ s. Contains (class.«from» ∷ []) s) (sym far.0) (one_there class.«from»)) (root_goes_on net hops class root.empty) is.found;
  prefixes = root_prefixes net hops class grown.made root (subst (λ rules. IsMade net hops class.«from» rules hops grown.made) root.empty is.made);
}

-- ---- one more terminal

-- one of some terminals or the next is one of all of these
either : (terminals : List ℕ) (next start : ℕ) (rules : List ℕ) → StartsAmong terminals start rules ⊎ StartsAmong (next ∷ []) start rules
    → StartsAmong (terminals ++ next ∷ []) start rules
either terminals next start rules there = ⊎_elim (Contains-append_left terminals (next ∷ []) start) (Contains-append_right terminals (next ∷ []) start) there

excluded : (terminals : List ℕ) (next : ℕ) → (Contains terminals next → ⊥) → (start : ℕ) (rules : List ℕ) → StartsAmong terminals start rules
    → StartsAmong (next ∷ []) start rules → ⊥
excluded terminals next fresh start rules here there = fresh (subst (λ t. Contains terminals t) (Contains-one next start there) here)

pub joined : (net : Network) (hops : ℕ) (terminals : List ℕ) (next : ℕ) (entries more : List Entry) (classes count : ℕ) → (Contains terminals next → ⊥)
    → IsSearched net hops terminals entries classes → IsSearched net hops (next ∷ []) more count
    → IsSearched net hops (terminals ++ next ∷ []) (entries ++ more) (min (classes + count) (2 ^ 64 - 1))
joined net hops terminals next entries more classes count fresh before last = record {
  found = entries_same net hops Either (StartsAmong all_of) (entries ++ more) (either terminals next)
      (λ start to rules header arrives there m. Contains-append_cases terminals (next ∷ []) start there)
      (entries_joined net hops (StartsAmong terminals) (StartsAmong (next ∷ [])) entries more (excluded terminals next fresh) before.found last.found);
  prefixes = number_same net hops Either (StartsAmong all_of) (min (classes + count) (2 ^ 64 - 1)) (either terminals next)
      (λ start rules there begins. Contains-append_cases terminals (next ∷ []) start there)
      (number_joined net hops (StartsAmong terminals) (StartsAmong (next ∷ [])) classes count (excluded terminals next fresh) before.prefixes last.prefixes);
}
  where
    all_of : List ℕ
    all_of = terminals ++ next ∷ []

    Either : ℕ → List ℕ → Type 0
    Either start rules = StartsAmong terminals start rules ⊎ StartsAmong (next ∷ []) start rules

-- a further terminal has more entries than are left, so that there are more than the limit
pub over : (net : Network) (hops limit left : ℕ) (terminals : List ℕ) (entries : List Entry) (classes : ℕ) (class : Class)
    → limit ≤ length entries + left → (Contains terminals class.«from» → ⊥) → IsSearched net hops terminals entries classes
    → HasMore net hops (GoesOnFrom class hops) left → IsOver net hops limit
over net hops limit left terminals entries classes class bound fresh before has =
    more_joined net hops (StartsAmong terminals) (GoesOnFrom class hops) (λ start rules. Unit {0}) entries limit left
    (λ start rules here there. fresh (subst (λ t. Contains terminals t) there.0 here)) (λ start rules is. tt) (λ start rules is. tt) bound before.found has

-- ---- the terminals in turn

abbrev pub starts_of : List Class → List ℕ
starts_of classes = map (λ (class : Class). class.«from») classes

pub root_at : (net : Network) (classes : List Class) (i : ℕ) (class : Class) → AreRoots net classes → i < length classes → class ≡ get_or classes i class
    → IsRoot net class.«from» class
root_at net classes i class roots inside at = record {
  starts = refl;
  empty = subst (λ (c : Class). c.rules ≡ []) (sym at) (roots.empty i class inside);
  belongs = subst (λ (c : Class). Belongs net c) (sym at) (roots.belong i class inside);
  some = (roots.exact class.«from»).0 (Contains-map (λ (c : Class). c.«from») classes class (i, inside, sym at));
}

-- numbers that rise: one is not among those before it
not_yet : (xs : List ℕ) → IsStrictlyIncreasing xs → (i x : ℕ) → i < length xs → get_or xs i x ≡ x → Contains (take i xs) x → ⊥
not_yet xs rises i x inside at there =
    let k = there.0 in
    let before : k < i = omega (arith, there.1, length-take i xs) in
    let first : get_or xs k x ≡ x = sym (get_or-take i xs k x before) ∙ there.2 in
    let less : get_or xs k x < get_or xs i x = AllPairs-from_increasing xs rises k i x before inside in
    omega arith

pub start_at : (classes : List Class) (i : ℕ) (class : Class) → i < length classes → class ≡ get_or classes i class → get_or (starts_of classes) i class.«from» ≡ class.«from»
start_at classes i class inside at = get_or-map (λ (c : Class). c.«from») classes i class class.«from» inside ∙ ap (λ (c : Class). c.«from») (sym at)

pub start_fresh : (net : Network) (classes : List Class) (i : ℕ) (class : Class) → AreRoots net classes → i < length classes → class ≡ get_or classes i class
    → Contains (take i (starts_of classes)) class.«from» → ⊥
start_fresh net classes i class roots inside at =
    not_yet (starts_of classes) roots.rises i class.«from» (omega (arith, length-map classes (λ (c : Class). c.«from»))) (start_at classes i class inside at)

pub starts_next : (classes : List Class) (i : ℕ) (class : Class) → i < length classes → class ≡ get_or classes i class
    → take (i + 1) (starts_of classes) ≡ take i (starts_of classes) ++ class.«from» ∷ []
starts_next classes i class inside at =
    let within : i < length (starts_of classes) = omega (arith, length-map classes (λ (c : Class). c.«from»)) in
    take_more (starts_of classes) i class.«from» within ∙ ap (λ t. take i (starts_of classes) ++ t ∷ []) (start_at classes i class inside at)

-- after the last root all of them are searched
pub starts_end : (net : Network) (hops : ℕ) (classes : List Class) (i : ℕ) (entries : List Entry) (count : ℕ) → length classes ≤ i
    → IsSearched net hops (take i (starts_of classes)) entries count → IsSearched net hops (starts_of classes) entries count
starts_end net hops classes i entries count past searched =
    let within : length (starts_of classes) ≤ i = omega (arith, length-map classes (λ (c : Class). c.«from»)) in
    subst (λ ts. IsSearched net hops ts entries count) (take_all i (starts_of classes) within) searched

-- ---- all terminals that send

pub all_found : (net : Network) (hops : ℕ) (classes : List Class) (entries : List Entry) (count : ℕ) → AreRoots net classes
    → IsSearched net hops (starts_of classes) entries count → IsFound net hops entries
all_found net hops classes entries count roots searched =
    all_entries net hops (StartsAmong (starts_of classes)) entries (λ start to rules header arrives m. (roots.exact start).1 (header, m.permitted)) searched.found

pub all_counted : (net : Network) (hops : ℕ) (classes : List Class) (entries : List Entry) (count : ℕ) → AreRoots net classes
    → IsSearched net hops (starts_of classes) entries count → IsPrefixNumber net hops (λ start rules. Unit {0}) count
all_counted net hops classes entries count roots searched =
    number_same net hops (StartsAmong (starts_of classes)) (λ start rules. Unit {0}) count (λ start rules there. tt)
    (λ start rules any begins. (roots.exact start).1 (begins.header, begins.permitted)) searched.prefixes
