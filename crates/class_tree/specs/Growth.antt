-- What becomes of a class by some further rules.
--     GoesOnFrom    the lists of rules that go on from those of the class
--     AreRest       the classes that still go on, just so many rules further
--     IsMade        how many longer prefixes the walks of the headers have
--     Enters        a header comes to a box after fewer rules than the hop limit, so many rules further
--     AreTouched    the boxes that they come to
--     IsGrown       all of these, and the entries that are delivered there
use Rattle.std.specs.Prelude.{◌≡◌, ◌≢◌, ◌<◌, ℕ, ◌-◌, ◌^◌, ◌↔◌, List, length, map, min, Some, All, AllPairs, Contains}
use Rattle.std.specs.List.Sorted.{IsStrictlyIncreasing}
use Rattle.network_model.specs.Bits.{Header}
use Rattle.network_model.specs.Network.{value_at, Network}
use Rattle.network_model.specs.Prefixes.{Extends, IsFurther, IsPrefix, Stands}
use Rattle.path_table.specs.Entries.{entry_of, AreEntries}
use Rattle.class_tree.specs.declared.class.Class.{Class}
use Rattle.class_tree.specs.declared.growth.Grown.{Grown}
use Rattle.class_tree.specs.Belonging.{Belongs}

-- the lists that go on from a class by at least one rule and at most so many
abbrev pub GoesOnFrom : Class → ℕ → ℕ → List ℕ → Type 0
GoesOnFrom class depth start rules = (start ≡ class.«from») × IsFurther class.rules depth rules

pub record AreRest (net : Network) (hops start : ℕ) (rules : List ℕ) (depth : ℕ) (classes : List Class) : Type 0 where
  pub starts : All (λ (class : Class). class.«from» ≡ start) classes
  pub further : All (λ (class : Class). Extends rules depth class.rules) classes
  pub short : All (λ (class : Class). length class.rules < hops) classes
  pub belong : All (Belongs net) classes
  pub inhabited : All (λ (class : Class). (h : Header) × Stands net start class.rules h) classes
  pub apart : AllPairs (λ (a b : Class). a.rules ≢ b.rules) classes
  pub complete : (met : List ℕ) (header : Header) → Stands net start met header → Extends rules depth met → length met < hops →
      (class : Class) × Contains classes class × (class.rules ≡ met)

pub record IsMade (net : Network) (hops start : ℕ) (rules : List ℕ) (depth made : ℕ) : Type 0 where
  pub lists : List (List ℕ)
  pub different : AllPairs (λ (a b : List ℕ). a ≢ b) lists
  pub prefix : All (IsPrefix net hops start) lists
  pub further : All (IsFurther rules depth) lists
  pub complete : (met : List ℕ) → IsPrefix net hops start met → IsFurther rules depth met → Contains lists met
  pub counted : made ≡ min (length lists) (2 ^ 64 - 1)

pub record Enters (net : Network) (hops start : ℕ) (rules : List ℕ) (depth box : ℕ) : Type 0 where
  pub header : Header
  pub met : List ℕ
  pub stands : Stands net start met header
  pub count : ℕ
  pub extends : Extends rules count met
  pub before : count < depth
  pub within : length met < hops
  pub inside : value_at net.ports stands.place.port ≡ Some box

pub record AreTouched (net : Network) (hops start : ℕ) (rules : List ℕ) (depth : ℕ) (boxes : List ℕ) : Type 0 where
  pub rises : IsStrictlyIncreasing boxes
  pub exact : (box : ℕ) → Contains boxes box ↔ Enters net hops start rules depth box

pub record IsGrown (net : Network) (hops : ℕ) (class : Class) (depth : ℕ) (grown : Grown) : Type 0 where
  pub found : AreEntries net hops (GoesOnFrom class depth) (map entry_of grown.found.items)
  pub rest : AreRest net hops class.«from» class.rules depth grown.rest.items
  pub made : IsMade net hops class.«from» class.rules depth grown.made
  pub touched : AreTouched net hops class.«from» class.rules depth grown.touched.items
