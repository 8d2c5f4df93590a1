-- How a network keeps its rules, and what it keeps beside its parts, so that a packet is not looked for among all of them.
--     takes_packet     a rule takes the port and matches the header
--     comes_before     rules by box, and those of a box in the order in which it tries them
--     IsInPrecedence   all rules in that order
--     IsPlaceInPrecedence  where a rule goes in that order
--     receiving        a terminal that receives, by its port
--     IsByPort         all terminals that receive, by rising ports
--     IsByBox          all ports by box, those of a box as they stand among all
--     at_places        the rules by number, from all rules in order and where each of them stands
--     IsPlaced         the rule of a row stands where the row says
--     raised           a row after another rule got a place
--     lowered          a row after another rule left its place
--     indexed          the network of the parts and these rules
--     IsIndexed        all of this, of a well-formed network within the limits
--     IsCopy           the same parts, of the same ports
use Rattle.std.specs.Prelude.{◌≡◌, ◌==◌, nat_lt, ℕ, Bool, true, false, ◌&&◌, ◌||◌, ◌+◌, ◌-◌, List, [], map, Option, Some, None, if◌then◌else◌, All, AllPairs, Contains, ◌<◌, ◌≤◌, length, slice_get, slice_index_or}
use Rattle.std.specs.List.{filter, filter_map}
use Rattle.std.specs.List.Sorted.{IsNonDecreasingBy, IsPermutation, IsStrictlyIncreasing}
use Rattle.std.specs.declared.cmp.Ordering.{Ordering}
use Rattle.std.specs.Ordering.{nat_cmp, ordering_then}
use Rattle.network_model.specs.Bits.{Header, matches}
use Rattle.network_model.specs.Network as model
use Rattle.network_model.specs.Network.{port_fits, precedes}
use Rattle.network_model.specs.Walk.{receives}
use Rattle.network_model.specs.WellFormed.{IsWellFormed}
use Rattle.net_types.specs.declared.rule.Rule.{Rule}
use Rattle.net_types.specs.declared.parts.Parts.{Parts}
use Rattle.net_types.specs.declared.parts.Port.{Port}
use Rattle.net_types.specs.declared.parts.Terminal.{Terminal}
use Rattle.net_types.specs.declared.network.Receiver.{Receiver}
use Rattle.net_types.specs.declared.network.RulePlace.{RulePlace}
use Rattle.network_model.specs.Within.{IsWithin}
use Rattle.net_types.specs.Parts.{network_of}
use Rattle.net_types.specs.Rules.{in_port, numbered}
use Rattle.net_types.specs.Terminals.{role_of}

abbrev pub takes_packet : ℕ → Header → Rule → Bool
takes_packet port header rule = port_fits (in_port rule.inp) port && matches rule.pattern header

abbrev pub precedence_cmp : Rule → Rule → Ordering
precedence_cmp a b =
    ordering_then (nat_cmp a.«at» b.«at») (ordering_then (nat_cmp b.priority a.priority) (nat_cmp a.id b.id))

abbrev pub comes_before : Rule → Rule → Bool
comes_before a b = nat_lt a.«at» b.«at» || ((a.«at» == b.«at») && precedes (numbered a) (numbered b))

pub record IsInPrecedence (rules ordered : List Rule) : Type 0 where
  pub sound : (rule : Rule) → Contains ordered rule → Contains rules rule
  pub complete : (rule : Rule) → Contains rules rule → Contains ordered rule
  pub order : AllPairs (λ a b. comes_before a b ≡ true) ordered

-- the place of a rule in that order: those before it come first, and none of the rest does
pub record IsPlaceInPrecedence (rule : Rule) (ordered : List Rule) (i : ℕ) : Type 0 where
  pub inside : i ≤ length ordered
  pub before : (k : ℕ) (d : Rule) → k < i → comes_before (slice_index_or ordered k d) rule ≡ true
  pub after : (k : ℕ) (d : Rule) → i ≤ k → k < length ordered → comes_before (slice_index_or ordered k d) rule ≡ false

abbrev pub receiving : Terminal → Option Receiver
receiving t = if receives (role_of t.role) then Some (record { port = t.port; term = t.id }) else None

pub record IsByPort (terminals : List Terminal) (receivers : List Receiver) : Type 0 where
  pub same : IsPermutation (filter_map receiving terminals) receivers
  pub rises : IsStrictlyIncreasing (map (λ r. r.port) receivers)

pub record IsByBox (ports by_box : List Port) : Type 0 where
  pub same : (box : ℕ) → filter (λ p. p.«at» == box) by_box ≡ filter (λ p. p.«at» == box) ports
  pub rises : IsNonDecreasingBy (λ p. p.«at») by_box

-- the rules of some rows, from all rules in order and where each of them stands
abbrev pub at_places : List Rule → List RulePlace → List Rule
at_places ordered places = filter_map (λ row. slice_get ordered row.place) places

-- the rule of a row stands there
pub record IsPlaced (ordered : List Rule) (row : RulePlace) : Type 0 where
  pub rule : Rule
  pub there : slice_get ordered row.place ≡ Some rule
  pub number : rule.id ≡ row.id

-- a row after another rule got a place, and after another rule left its place
abbrev pub raised : ℕ → ℕ → RulePlace → RulePlace
raised id start row = if (row.id == id) || nat_lt row.place start then row else record row { place = row.place + 1 }

abbrev pub lowered : ℕ → RulePlace → RulePlace
lowered gap row = if nat_lt gap row.place then record row { place = row.place - 1 } else row

abbrev pub indexed : Parts → List Rule → List RulePlace → model.Network
indexed parts ordered places = network_of parts (at_places ordered places)

pub record IsIndexed (parts : Parts) (ordered : List Rule) (places : List RulePlace) (receivers : List Receiver) (ports_by_box : List Port) : Type 0 where
  pub well_formed : IsWellFormed (indexed parts ordered places)
  pub within : IsWithin (indexed parts ordered places)
  pub placed : All (IsPlaced ordered) places
  pub as_many : length ordered ≡ length places
  pub by_box : IsInPrecedence (at_places ordered places) ordered
  pub by_port : IsByPort parts.terminals.items receivers
  pub ports : IsByBox parts.ports.items ports_by_box

-- the same parts, of the same ports
pub record IsCopy (copy parts : Parts) : Type 0 where
  pub network : network_of copy [] ≡ network_of parts []
  pub ports : copy.ports.items ≡ parts.ports.items
