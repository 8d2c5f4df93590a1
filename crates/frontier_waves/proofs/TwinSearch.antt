-- What is found from some terminals, copied for those that can't be told apart from them.
use Rattle.std.proofs.Common.{◌≡◌, ◌≢◌, ℕ, ◌+◌, ◌-◌, ◌^◌, ◌<◌, List, [], ◌∷◌, ◌++◌, length, map, min, take, get_or, sym, ap, ◌∙◌, arith, IsPermutation}
use Rattle.std.specs.List.{AllPairs, Contains, filter}
use Rattle.std.proofs.lemmas.List.{take_more, map-append}
use Rattle.std.proofs.lemmas.List.Elements.{All-filter, All-weaker}
use Rattle.std.proofs.lemmas.List.Kept.{AllPairs-filter}
use Rattle.list_laws.proofs.Members.{Contains-from_filter, filter-map}
use Rattle.list_laws.proofs.Pairs.{AllPairs-map}
use Rattle.network_model.specs.Network.{Network}
use Rattle.network_model.specs.Table.{Entry, HasMore}
use Rattle.path_table.proofs.Ordered.{entries_permuted}
use Rattle.twin_laws.specs.Shared.{weight_of, total, entries_of_twins, is_first, AreTwinned}
use Rattle.twin_laws.proofs.Shared.{each_of_all, apart_of_all, classes_of_all, complete_of_all, more_of_all, number_of_all}
use Rattle.twin_laws.proofs.Weighed.{total_append}
use Rattle.class_tree.specs.declared.class.Class.{Class}
use Rattle.class_tree.specs.Roots.{IsRoot}
use Rattle.class_tree.specs.Searched.{StartsAmong, IsSearched}
use Rattle.frontier_waves.specs.Starts.{starts_of, leads, AreStarts}
use Rattle.frontier_waves.specs.Waves.{bare_path, IsSearchedFor}

pub starts_differ : (net : Network) (classes : List Class) → AreStarts net classes → AllPairs (λ (a b : ℕ). a ≢ b) (starts_of classes)
starts_differ net classes starts = AllPairs-map (λ (c : Class). c.«from») (λ (a b : ℕ). a ≢ b) classes starts.apart

pub leading_starts : (net : Network) (twins : List (ℕ × ℕ)) (classes : List Class) → AreStarts net classes → AreStarts net (filter (leads twins) classes)
leading_starts net twins classes starts = record {
  each = All-filter (leads twins) (λ (c : Class). IsRoot net c.«from» c) classes starts.each;
  apart = AllPairs-filter (λ (a b : Class). a.«from» ≢ b.«from») (leads twins) classes starts.apart;
}

pub leading : (twins : List (ℕ × ℕ)) (classes : List Class) → starts_of (filter (leads twins) classes) ≡ filter (is_first twins) (starts_of classes)
leading twins classes = sym (filter-map (λ (c : Class). c.«from») (is_first twins) classes)

pub more_leading : (net : Network) (hops limit : ℕ) (twins : List (ℕ × ℕ)) (all : List ℕ) → HasMore net hops (StartsAmong (filter (is_first twins) all)) limit
    → HasMore net hops (StartsAmong all) limit
more_leading net hops limit twins all has = record {
  entries = has.entries;
  each = All-weaker (λ (e : Entry). Contains (filter (is_first twins) all) e.«from») (λ (e : Entry). Contains all e.«from»)
      (λ e there. Contains-from_filter (is_first twins) all e.«from» there) has.entries has.each;
  apart = has.apart;
  classes = has.classes;
  more = has.more;
}

pub searched_for_all : (net : Network) (hops : ℕ) (all : List ℕ) (twins : List (ℕ × ℕ)) (entries more : List Entry) (classes : ℕ) → AreTwinned net all twins
    → IsSearchedFor net hops (filter (is_first twins) all) twins entries classes → IsPermutation (entries_of_twins twins entries ++ entries) more → IsSearched net hops all more classes
searched_for_all net hops all twins entries more classes twinned is copied = record {
  found = entries_permuted net hops (StartsAmong all) (entries_of_twins twins entries ++ entries) more copied (record {
    each = each_of_all net all twins twinned hops entries is.found.each is.found.apart is.found.classes is.found.complete;
    apart = apart_of_all net all twins twinned hops entries is.found.each is.found.apart is.found.classes is.found.complete;
    classes = classes_of_all net all twins twinned hops entries is.found.each is.found.apart is.found.classes is.found.complete;
    complete = complete_of_all net all twins twinned hops entries is.found.each is.found.apart is.found.classes is.found.complete;
  });
  prefixes = number_of_all net all twins twinned hops classes is.prefixes;
}

pub more_for_all : (net : Network) (hops limit : ℕ) (all : List ℕ) (twins : List (ℕ × ℕ)) (entries : List Entry) (classes : ℕ) → AreTwinned net all twins
    → IsSearchedFor net hops (filter (is_first twins) all) twins entries classes → limit < length (entries_of_twins twins entries ++ entries) → HasMore net hops (StartsAmong all) limit
more_for_all net hops limit all twins entries classes twinned is more =
    more_of_all net all twins twinned hops entries is.found.each is.found.apart is.found.classes is.found.complete limit more

-- the first classes count for as many terminals
pub counted_more : (twins : List (ℕ × ℕ)) (starts : List Class) (i : ℕ) (start : Class) (count weight : ℕ) → i < length starts → get_or starts i start ≡ start
    → count ≡ min (total (weight_of twins) (map bare_path (take i starts))) (2 ^ 64 - 1) → weight ≡ weight_of twins start.«from»
    → min (count + weight) (2 ^ 64 - 1) ≡ min (total (weight_of twins) (map bare_path (take (i + 1) starts))) (2 ^ 64 - 1)
counted_more twins starts i start count weight inside at is own =
    omega (arith, is, own, ap (total (weight_of twins)) paths, total_append (weight_of twins) (map bare_path (take i starts)) (bare_path start ∷ []))
  where
    paths : map bare_path (take (i + 1) starts) ≡ map bare_path (take i starts) ++ bare_path start ∷ []
    paths = ap (map bare_path) (take_more starts i start inside ∙ ap (λ c. take i starts ++ c ∷ []) at) ∙ map-append bare_path (take i starts) (start ∷ [])
