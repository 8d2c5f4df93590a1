-- A search after some rules.
--     Within        a list of so many rules at most, of one of some terminals
--     TouchedBy     the pairs of such a terminal and a box that its packets come to within the hop limit
--     path_of       the terminal and the rules of a class
--     bare_path     the terminal of a class and no rule
--     AreWave       the classes of these terminals that still go on after so many rules
--     HasSearched   all entries with at most so many rules, the prefixes, each counted for all terminals for which its terminal is
--                   searched, the boxes touched before as many, and the classes that go on
--     IsSearchedFor the entries of the table that begin at some terminals, in any order, and their prefixes, counted in the same way
--     Takes         what a class comes to by at most so many more rules is added
use Rattle.std.specs.Prelude.{◌≡◌, ◌≢◌, ◌<◌, ◌≤◌, ◌+◌, ◌-◌, ◌*◌, ◌^◌, ◌↔◌, ◌⊎◌, ◌++◌, ℕ, List, [], length, map, min, All, AllPairs, Contains}
use Rattle.network_model.specs.Bits.{Header}
use Rattle.network_model.specs.Network.{Network}
use Rattle.network_model.specs.Prefixes.{Stands, Touches}
use Rattle.network_model.specs.Table.{Entry}
use Rattle.twin_laws.specs.Shared.{weight_of, IsWeighed}
use Rattle.path_table.specs.Entries.{entry_of, AreEntries}
use Rattle.class_tree.specs.declared.class.Class.{Class}
use Rattle.class_tree.specs.declared.growth.Grown.{Grown}
use Rattle.class_tree.specs.Belonging.{Belongs}
use Rattle.class_tree.specs.Growth.{IsGrown}
use Rattle.class_tree.specs.Searched.{StartsAmong}
use Rattle.frontier_waves.specs.declared.frontier.Found.{Found}
use Rattle.frontier_waves.specs.declared.frontier.Frontier.{Frontier}

abbrev pub Within : List ℕ → ℕ → ℕ → List ℕ → Type 0
Within terminals depth start rules = Contains terminals start × (length rules ≤ depth)

abbrev pub TouchedBy : Network → ℕ → List ℕ → List (ℕ × ℕ) → Type 0
TouchedBy net hops terminals pairs = (terminal box : ℕ) → Contains pairs (terminal, box) ↔ (Contains terminals terminal × Touches net hops terminal box)

abbrev pub path_of : Class → ℕ × List ℕ
path_of class = (class.«from», class.rules)

abbrev pub bare_path : Class → ℕ × List ℕ
bare_path class = (class.«from», [])

pub record AreWave (net : Network) (hops : ℕ) (terminals : List ℕ) (depth : ℕ) (classes : List Class) : Type 0 where
  pub among : All (λ (class : Class). Contains terminals class.«from») classes
  pub long : All (λ (class : Class). length class.rules ≡ depth) classes
  pub belong : All (Belongs net) classes
  pub inhabited : All (λ (class : Class). (h : Header) × Stands net class.«from» class.rules h) classes
  pub apart : AllPairs (λ (a b : Class). path_of a ≢ path_of b) classes
  pub complete : (start : ℕ) (met : List ℕ) (header : Header) → Contains terminals start → Stands net start met header → length met ≡ depth → depth < hops →
      (class : Class) × Contains classes class × (class.«from» ≡ start) × (class.rules ≡ met)

pub record HasSearched (net : Network) (hops : ℕ) (twins : List (ℕ × ℕ)) (terminals : List ℕ) (depth : ℕ) (found : Found) (classes : List Class) : Type 0 where
  pub entries : AreEntries net hops (Within terminals depth) (map entry_of found.entries.items)
  pub prefixes : IsWeighed net hops (Within terminals depth) twins found.classes
  pub touched : TouchedBy net depth terminals found.touched
  pub wave : AreWave net hops terminals depth classes

pub record IsSearchedFor (net : Network) (hops : ℕ) (terminals : List ℕ) (twins : List (ℕ × ℕ)) (entries : List Entry) (classes : ℕ) : Type 0 where
  pub found : AreEntries net hops (StartsAmong terminals) entries
  pub prefixes : IsWeighed net hops (StartsAmong terminals) twins classes

pub record Takes (net : Network) (hops : ℕ) (twins : List (ℕ × ℕ)) (stride : ℕ) (class : Class) (old new : Frontier) : Type 0 where
  pub grown : Grown
  pub is : IsGrown net hops class stride grown
  pub entries : new.found.entries.items ≡ old.found.entries.items ++ grown.found.items
  pub classes : new.found.classes ≡ min (old.found.classes + min (grown.made * weight_of twins class.«from») (2 ^ 64 - 1)) (2 ^ 64 - 1)
  pub touched : (terminal box : ℕ) → Contains new.found.touched (terminal, box)
      ↔ (Contains old.found.touched (terminal, box) ⊎ ((terminal ≡ class.«from») × Contains grown.touched.items box))
  pub wave : new.wave.items ≡ old.wave.items ++ grown.rest.items
