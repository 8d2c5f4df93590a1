-- Where the search begins.
--     IsRoot      the class of a terminal's headers before they met a rule
--     AreAmong    those of some terminals
--     AreRoots    a class with no rules for each terminal that sends some header, by rising numbers
use Rattle.std.specs.Prelude.{◌≡◌, ℕ, ◌↔◌, List, [], map, IsTrue, All, Contains}
use Rattle.std.specs.List.Sorted.{IsStrictlyIncreasing}
use Rattle.network_model.specs.Bits.{Header}
use Rattle.network_model.specs.Network.{Network}
use Rattle.network_model.specs.Classes.{permits}
use Rattle.class_tree.specs.declared.class.Class.{Class}
use Rattle.class_tree.specs.Belonging.{Belongs}

pub record IsRoot (net : Network) (terminal : ℕ) (class : Class) : Type 0 where
  pub starts : class.«from» ≡ terminal
  pub empty : class.rules ≡ []
  pub belongs : Belongs net class
  pub some : (h : Header) × IsTrue (permits net terminal h)

pub record AreAmong (net : Network) (terminals : List ℕ) (classes : List Class) : Type 0 where
  pub each : All (λ (class : Class). IsRoot net class.«from» class) classes
  pub among : All (λ (class : Class). Contains terminals class.«from») classes
  pub rises : IsStrictlyIncreasing (map (λ (class : Class). class.«from») classes)
  pub complete : (start : ℕ) → Contains terminals start → ((h : Header) × IsTrue (permits net start h)) → Contains (map (λ (class : Class). class.«from») classes) start

pub record AreRoots (net : Network) (classes : List Class) : Type 0 where
  pub belong : All (Belongs net) classes
  pub empty : All (λ (class : Class). class.rules ≡ []) classes
  pub rises : IsStrictlyIncreasing (map (λ (class : Class). class.«from») classes)
  pub exact : (start : ℕ) → Contains (map (λ (class : Class). class.«from») classes) start ↔ ((h : Header) × IsTrue (permits net start h))
