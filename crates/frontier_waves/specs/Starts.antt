-- The classes with which a search begins.
--     starts_of    the terminals of some classes
--     is_listed    the terminal of a class is in a list
--     leads        the terminal of a class is searched itself
--     AreStarts    the classes of different terminals before any rule
--     ArePicked    those of the terminals of a list that send some header
use Rattle.std.specs.Prelude.{◌≢◌, ℕ, Bool, List, map, nat_eq, IsTrue, All, AllPairs, Contains}
use Rattle.std.specs.List.{list_any}
use Rattle.network_model.specs.Bits.{Header}
use Rattle.network_model.specs.Network.{Network}
use Rattle.network_model.specs.Classes.{permits}
use Rattle.twin_laws.specs.Shared.{is_first}
use Rattle.class_tree.specs.declared.class.Class.{Class}
use Rattle.class_tree.specs.Roots.{IsRoot}

abbrev pub starts_of : List Class → List ℕ
starts_of classes = map (λ (class : Class). class.«from») classes

abbrev pub is_listed : List ℕ → Class → Bool
is_listed terminals class = list_any (λ t. nat_eq t class.«from») terminals

abbrev pub leads : List (ℕ × ℕ) → Class → Bool
leads twins class = is_first twins class.«from»

pub record AreStarts (net : Network) (classes : List Class) : Type 0 where
  pub each : All (λ (class : Class). IsRoot net class.«from» class) classes
  pub apart : AllPairs (λ (a b : Class). a.«from» ≢ b.«from») classes

pub record ArePicked (net : Network) (terminals : List ℕ) (classes : List Class) : Type 0 where
  pub starts : AreStarts net classes
  pub among : All (λ (class : Class). Contains terminals class.«from») classes
  pub complete : (start : ℕ) (header : Header) → Contains terminals start → IsTrue (permits net start header) → Contains (starts_of classes) start
