-- Terminals of which some are searched for others too: pairs of one that is searched and a twin of it.
--     is_led          the pair is of a twin of this terminal
--     weight_of       how many terminals one stands for: itself and its twins
--     total           for how many terminals and lists of rules some of these stand
--     copies          what a thing of one terminal is for each of its twins
--     spread          that of each thing of a list
--     is_first        a terminal is no twin of another
--     AreTwinned      pairs of terminals of a list: they are twins, no terminal is a twin twice, and no first is a twin
--     IsWeighed       how many prefixes there are, each counted for all terminals that its terminal stands for, but never more than the
--                     largest number of 64 bits
--     IsTwinBox       packets of a terminal's first come to the box
use Rattle.std.specs.Prelude.{◌≡◌, ◌≢◌, ℕ, ◌+◌, ◌-◌, ◌^◌, Bool, not, List, [], ◌∷◌, ◌++◌, length, map, min, nat_eq, All, AllPairs, Contains}
use Rattle.std.specs.List.{filter, list_any}
use Rattle.network_model.specs.Network.{Network}
use Rattle.network_model.specs.Prefixes.{ArePrefixes}
use Rattle.network_model.specs.Table.{Entry}
use Rattle.twin_laws.specs.Twins.{AreTwins, as_from}

abbrev pub is_led : ℕ → ℕ × ℕ → Bool
is_led start twin = nat_eq twin.0 start

abbrev pub weight_of : List (ℕ × ℕ) → ℕ → ℕ
weight_of twins start = 1 + length (filter (is_led start) twins)

abbrev pub total : (ℕ → ℕ) → List (ℕ × List ℕ) → ℕ
total weight [] = 0
total weight (p ∷ ps) = weight p.0 + total weight ps

abbrev pub copies : {A : Type 0} → (A → ℕ) → (ℕ → A → A) → List (ℕ × ℕ) → A → List A
copies start put twins x = map (λ (t : ℕ × ℕ). put t.1 x) (filter (is_led (start x)) twins)

abbrev pub spread : {A : Type 0} → (A → ℕ) → (ℕ → A → A) → List (ℕ × ℕ) → List A → List A
spread start put twins [] = []
spread start put twins (x ∷ xs) = copies start put twins x ++ spread start put twins xs

abbrev pub start_of : Entry → ℕ
start_of e = e.«from»

abbrev pub copies_of : List (ℕ × ℕ) → Entry → List Entry
copies_of twins e = copies start_of as_from twins e

abbrev pub entries_of_twins : List (ℕ × ℕ) → List Entry → List Entry
entries_of_twins twins entries = spread start_of as_from twins entries

abbrev pub is_first : List (ℕ × ℕ) → ℕ → Bool
is_first twins terminal = not (list_any (λ (t : ℕ × ℕ). nat_eq t.1 terminal) twins)

pub record AreTwinned (net : Network) (terminals : List ℕ) (twins : List (ℕ × ℕ)) : Type 0 where
  pub alike : All (λ (t : ℕ × ℕ). AreTwins net t.0 t.1) twins
  pub first_there : All (λ (t : ℕ × ℕ). Contains terminals t.0) twins
  pub other_there : All (λ (t : ℕ × ℕ). Contains terminals t.1) twins
  pub once : AllPairs (λ (t u : ℕ × ℕ). t.1 ≢ u.1) twins
  pub excluded : (t u : ℕ × ℕ) → Contains twins t → Contains twins u → t.0 ≢ u.1

pub record IsWeighed (net : Network) (hops : ℕ) (P : ℕ → List ℕ → Type 0) (twins : List (ℕ × ℕ)) (number : ℕ) : Type 0 where
  pub pairs : List (ℕ × List ℕ)
  pub are : ArePrefixes net hops P pairs
  pub weighed : number ≡ min (total (weight_of twins) pairs) (2 ^ 64 - 1)

pub record IsTwinBox (twins : List (ℕ × ℕ)) (pairs : List (ℕ × ℕ)) (terminal box : ℕ) : Type 0 where
  pub first : ℕ
  pub led : Contains twins (first, terminal)
  pub comes : Contains pairs (first, box)
