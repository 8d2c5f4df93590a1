-- The classes of some terminals among those of all, and what a search of one set of terminals is of another.
use Rattle.std.proofs.Common.{◌≡◌, ◌≢◌, ◌↔◌, ℕ, ◌<◌, Bool, true, false, ◌||◌, List, [], ◌∷◌, ⊎_elim, get_or, refl, sym, ap, subst, arith, nat_eq}
use Rattle.std.specs.List.{All, AllPairs, Contains, filter, list_any}
use Rattle.std.proofs.lemmas.Bool.{eq-eqb, eqb-true}
use Rattle.std.proofs.lemmas.List.{get_or_default}
use Rattle.std.proofs.lemmas.Map.Views.{Contains-from_any}
use Rattle.std.proofs.lemmas.List.Elements.{All-contains}
use Rattle.std.proofs.lemmas.List.Kept.{AllPairs-filter, AllPairs-from_increasing}
use Rattle.list_laws.proofs.Members.{Contains-nil, Contains-cons_cases, Contains-map, Contains-from_map, Contains-filter, Contains-from_filter, passes_of}
use Rattle.list_laws.proofs.Pairs.{AllPairs-from_map}
use Rattle.network_model.specs.Network.{Network}
use Rattle.network_model.specs.Prefixes.{Touches}
use Rattle.network_model.specs.Table.{Entry, HasMore}
use Rattle.model_laws.proofs.PrefixLaws.{number_same}
use Rattle.path_table.proofs.JoinedEntries.{entries_same}
use Rattle.class_tree.specs.declared.class.Class.{Class}
use Rattle.class_tree.specs.Roots.{IsRoot, AreRoots}
use Rattle.class_tree.specs.Searched.{StartsAmong, IsSearched}
use Rattle.frontier_waves.specs.Starts.{starts_of, is_listed, AreStarts, ArePicked}
use Rattle.frontier_waves.specs.Waves.{TouchedBy}

root_at : (net : Network) (classes : List Class) → AreRoots net classes → All (λ (class : Class). IsRoot net class.«from» class) classes
root_at net classes roots k d inside =
    let class : Class = get_or classes k d in record {
      starts = refl;
      empty = roots.empty k d inside;
      belongs = roots.belong k d inside;
      some = (roots.exact class.«from»).0 (Contains-map (λ (c : Class). c.«from») classes class (k, inside, get_or_default classes k class d inside));
    }

roots_apart : (classes : List Class) → AllPairs (λ (a b : ℕ). a < b) (starts_of classes) → AllPairs (λ (a b : Class). a.«from» ≢ b.«from») classes
roots_apart classes rises i j d less inside same =
    let below : (get_or classes i d).«from» < (get_or classes j d).«from» =
    AllPairs-from_map (λ (c : Class). c.«from») (λ (a b : ℕ). a < b) classes rises i j d less inside in
    omega arith

pub all_starts : (net : Network) (classes : List Class) → AreRoots net classes → AreStarts net classes
all_starts net classes roots = record {
  each = root_at net classes roots;
  apart = roots_apart classes (AllPairs-from_increasing (starts_of classes) roots.rises);
}

-- a test by number tells whether the number is there
any_later : (b c : Bool) → c ≡ true → (b || c) ≡ true
any_later true c e = refl
any_later false c e = e

any_there : (xs : List ℕ) (x : ℕ) → Contains xs x → list_any (λ y. nat_eq y x) xs ≡ true
any_there [] x there = absurd (Contains-nil x there)
any_there (y ∷ ys) x there = ⊎_elim
    (λ same. ap (λ (b : Bool). b || list_any (λ z. nat_eq z x) ys) (eq-eqb y x same))
    (λ later. any_later (nat_eq y x) (list_any (λ z. nat_eq z x) ys) (any_there ys x later))
    (Contains-cons_cases y x ys there)

there_from_any : (xs : List ℕ) (x : ℕ) → list_any (λ y. nat_eq y x) xs ≡ true → Contains xs x
there_from_any xs x found = Contains-from_any {eq = λ (z y : ℕ). nat_eq y z} (λ z y same. sym (eqb-true y z same)) x xs found

-- those whose terminal is listed
pub picks : (net : Network) (terminals : List ℕ) (all : List Class) → AreRoots net all → ArePicked net terminals (filter (is_listed terminals) all)
picks net terminals all roots = record {
  starts = record {
    each = λ k d inside. from_all (λ (class : Class). IsRoot net class.«from» class) (root_at net all roots) k d inside;
    apart = AllPairs-filter (λ (a b : Class). a.«from» ≢ b.«from») test all (roots_apart all (AllPairs-from_increasing (starts_of all) roots.rises));
  };
  among = λ k d inside.
      let class : Class = get_or (filter test all) k d in
      (tells class).0 (passes_of test all class (k, inside, get_or_default (filter test all) k class d inside));
  complete = λ start header there permitted.
      let source = Contains-from_map (λ (c : Class). c.«from») all start ((roots.exact start).1 (header, permitted)) in
      let class : Class = source.0 in
      let same : class.«from» ≡ start = source.1.1 in
      let passes : test class ≡ true = (tells class).1 (subst (λ s. Contains terminals s) (sym same) there) in
      subst (λ s. Contains (starts_of (filter test all)) s) same
      (Contains-map (λ (c : Class). c.«from») (filter test all) class (Contains-filter test all class source.1.0 passes));
}
  where
    test : Class → Bool
    test = is_listed terminals

    tells : (c : Class) → (test c ≡ true) ↔ Contains terminals c.«from»
    tells c = (there_from_any terminals c.«from», any_there terminals c.«from»)

    from_all : (P : Class → Type 0) → All P all → All P (filter test all)
    from_all P each k d inside =
        let class : Class = get_or (filter test all) k d in
        All-contains P all class each (Contains-from_filter test all class (k, inside, get_or_default (filter test all) k class d inside))

pub picked_among : (net : Network) (terminals : List ℕ) (classes : List Class) → ArePicked net terminals classes → (start : ℕ) → Contains (starts_of classes) start → Contains terminals start
picked_among net terminals classes is start there =
    let source = Contains-from_map (λ (c : Class). c.«from») classes start there in
    subst (λ s. Contains terminals s) source.1.1 (All-contains (λ (c : Class). Contains terminals c.«from») classes source.0 is.among source.1.0)

-- the terminals that are listed but send nothing have no entry, no prefix and no box
pub picked_searched : (net : Network) (hops : ℕ) (terminals : List ℕ) (classes : List Class) (entries : List Entry) (count : ℕ) → ArePicked net terminals classes
    → IsSearched net hops (starts_of classes) entries count → IsSearched net hops terminals entries count
picked_searched net hops terminals classes entries count picked is = record {
  found = entries_same net hops (StartsAmong (starts_of classes)) (StartsAmong terminals) entries (λ start rules there. picked_among net terminals classes picked start there)
      (λ start to rules header arrives there m. picked.complete start header there m.permitted) is.found;
  prefixes = number_same net hops (StartsAmong (starts_of classes)) (StartsAmong terminals) count (λ start rules there. picked_among net terminals classes picked start there)
      (λ start rules there begins. picked.complete start begins.header there begins.permitted) is.prefixes;
}

pub picked_touched : (net : Network) (hops : ℕ) (terminals : List ℕ) (classes : List Class) (pairs : List (ℕ × ℕ)) → ArePicked net terminals classes
    → TouchedBy net hops (starts_of classes) pairs → TouchedBy net hops terminals pairs
picked_touched net hops terminals classes pairs picked is terminal box = (
  (λ there. let t = (is terminal box).0 there in (picked_among net terminals classes picked terminal t.0, t.1)),
  (λ there. (is terminal box).1 (picked.complete terminal there.1.header there.0 there.1.permitted, there.1)),
)

pub picked_more : (net : Network) (hops limit : ℕ) (terminals : List ℕ) (classes : List Class) → ArePicked net terminals classes
    → HasMore net hops (StartsAmong (starts_of classes)) limit → HasMore net hops (StartsAmong terminals) limit
picked_more net hops limit terminals classes picked has = record {
  entries = has.entries;
  each = λ k d inside. picked_among net terminals classes picked (get_or has.entries k d).«from» (has.each k d inside);
  apart = has.apart;
  classes = has.classes;
  more = has.more;
}

-- of all terminals that send
pub all_touched : (net : Network) (hops : ℕ) (classes : List Class) (pairs : List (ℕ × ℕ)) → AreRoots net classes → TouchedBy net hops (starts_of classes) pairs
    → (terminal box : ℕ) → Contains pairs (terminal, box) ↔ Touches net hops terminal box
all_touched net hops classes pairs roots is terminal box = (
  (λ there. ((is terminal box).0 there).1),
  (λ t. (is terminal box).1 ((roots.exact terminal).1 (t.header, t.permitted), t)),
)

pub all_more : (net : Network) (hops limit : ℕ) (classes : List Class) → HasMore net hops (StartsAmong (starts_of classes)) limit → HasMore net hops (λ start rules. Unit {0}) limit
all_more net hops limit classes has = record { entries = has.entries; each = λ k d inside. tt; apart = has.apart; classes = has.classes; more = has.more }
