-- A state that grows: what it has of the lists of rules that were taken so far.
--     arrivals      the entries that lie behind a rule, one or none
--     onwards       the classes that lie behind it and go on, one or none
--     IsListed      a list of the terminal is among those taken
--     RestAmong     the classes that go on, so many rules further, with some of these lists
--     IsCount       different lists with which walks begin, and how many
--     IsAmong       all of these
--     IsNext        a class so many rules further, of whose longer lists none is taken
--     HasTaken      the lists one rule longer than those of a class are taken too
--     HasJoined     some numbers have joined those that rise, each at its place
use Rattle.std.specs.Prelude.{◌≡◌, ◌≢◌, ℕ, ◌-◌, ◌^◌, ◌<◌, ◌↔◌, ◌⊎◌, List, [], ◌∷◌, ◌++◌, length, map, min, nat_lt, if◌then◌else◌, All, AllPairs, Contains}
use Rattle.std.specs.List.Sorted.{IsStrictlyIncreasing}
use Rattle.network_model.specs.Bits.{Header}
use Rattle.network_model.specs.Network.{Network}
use Rattle.network_model.specs.Prefixes.{IsPrefix, Extends, IsFurther, Stands, extended}
use Rattle.path_table.specs.declared.entry.Entry.{Entry}
use Rattle.path_table.specs.Entries.{entry_of, AreEntries}
use Rattle.class_tree.specs.declared.class.Class.{Class}
use Rattle.class_tree.specs.declared.expansion.Behind.{Behind}
use Rattle.class_tree.specs.declared.expansion.Behind.TheVariants.{Arrival, Onward, Nothing}
use Rattle.class_tree.specs.declared.growth.Grown.{Grown}
use Rattle.class_tree.specs.Belonging.{Belongs}

abbrev pub arrivals : Behind → List Entry
arrivals (Arrival e) = e ∷ []
arrivals (Onward next) = []
arrivals Nothing = []

abbrev pub onwards : ℕ → Behind → List Class
onwards hops (Arrival e) = []
onwards hops (Onward next) = if nat_lt (length next.rules) hops then next ∷ [] else []
onwards hops Nothing = []

-- the lists of a terminal that were taken so far
abbrev pub IsListed : ℕ → List (List ℕ) → ℕ → List ℕ → Type 0
IsListed start lists f rules = (f ≡ start) × Contains lists rules

pub record RestAmong (net : Network) (hops start : ℕ) (rules : List ℕ) (depth : ℕ) (lists : List (List ℕ)) (classes : List Class) : Type 0 where
  pub starts : All (λ (class : Class). class.«from» ≡ start) classes
  pub further : All (λ (class : Class). Extends rules depth class.rules) classes
  pub short : All (λ (class : Class). length class.rules < hops) classes
  pub belong : All (Belongs net) classes
  pub inhabited : All (λ (class : Class). (h : Header) × Stands net start class.rules h) classes
  pub listed : All (λ (class : Class). Contains lists class.rules) classes
  pub apart : AllPairs (λ (a b : Class). a.rules ≢ b.rules) classes
  pub complete : (met : List ℕ) (header : Header) → Contains lists met → Stands net start met header → Extends rules depth met → length met < hops →
      (class : Class) × Contains classes class × (class.rules ≡ met)

pub record IsCount (net : Network) (hops start : ℕ) (rules : List ℕ) (depth : ℕ) (lists : List (List ℕ)) (made : ℕ) : Type 0 where
  pub different : AllPairs (λ (a b : List ℕ). a ≢ b) lists
  pub prefix : All (IsPrefix net hops start) lists
  pub further : All (IsFurther rules depth) lists
  pub counted : made ≡ min (length lists) (2 ^ 64 - 1)

pub record IsAmong (net : Network) (hops : ℕ) (base : Class) (depth : ℕ) (lists : List (List ℕ)) (grown : Grown) : Type 0 where
  pub found : AreEntries net hops (IsListed base.«from» lists) (map entry_of grown.found.items)
  pub rest : RestAmong net hops base.«from» base.rules depth lists grown.rest.items
  pub count : IsCount net hops base.«from» base.rules depth lists grown.made

pub record IsNext (base : Class) (depth : ℕ) (lists : List (List ℕ)) (class : Class) : Type 0 where
  pub starts : class.«from» ≡ base.«from»
  pub extends : Extends base.rules depth class.rules
  pub fresh : (rule : ℕ) → Contains lists (extended class.rules rule) → ⊥

pub record HasTaken (net : Network) (hops : ℕ) (base : Class) (depth : ℕ) (lists : List (List ℕ)) (class : Class) (grown : Grown) : Type 0 where
  pub rules : List ℕ
  pub among : IsAmong net hops base depth (lists ++ map (extended class.rules) rules) grown
  pub all : (rule : ℕ) → IsPrefix net hops base.«from» (extended class.rules rule) → Contains rules rule

pub record HasJoined (P : ℕ → Type 0) (old new : List ℕ) : Type 0 where
  pub rises : IsStrictlyIncreasing old → IsStrictlyIncreasing new
  pub exact : IsStrictlyIncreasing old → (n : ℕ) → Contains new n ↔ (Contains old n ⊎ P n)
