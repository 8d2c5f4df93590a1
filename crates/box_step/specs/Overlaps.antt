-- Rules that meet, and what is kept of them for each rule of a network.
--     rules_meet       of one box, by a common port, and some header matches both patterns
--     preceding_of     the numbers of the rules that precede a rule and meet it, in number order
--     lists_of         these lists, for each rule by its number
--     pair_count       how many members they have together
--     IsOverlaps       what was made of a network
use Rattle.std.specs.Prelude.{◌≡◌, ℕ, ◌==◌, Some, slice_get, Bool, true, ◌&&◌, List, filter, map, length, sum_by, All, Contains}
use Rattle.network_model.specs.Network.{Network, Numbered, Rule, InPort, AnyPort, OnePort, precedes}
use Rattle.ternary_bits.specs.Pieces.{meets}
use Rattle.net_types.specs.declared.rule.Rule as declared
use Rattle.net_types.specs.Rules.{numbered}
use Rattle.box_step.specs.Guides.{IsGuide}
use Rattle.box_step.specs.declared.overlaps.Overlaps.{Overlaps}

abbrev pub ports_meet : InPort → InPort → Bool
ports_meet AnyPort other = true
ports_meet (OnePort port) AnyPort = true
ports_meet (OnePort port) (OnePort other) = port == other

abbrev pub rules_meet : Rule → Rule → Bool
rules_meet a b = (a.at == b.at) && (ports_meet a.inp b.inp && meets a.pattern b.pattern)

abbrev pub comes_first : Numbered → Numbered → Bool
comes_first rule other = precedes other rule && rules_meet other.1 rule.1

abbrev pub preceding_of : Network → Numbered → List ℕ
preceding_of net rule = map (λ other. other.0) (filter (comes_first rule) net.rules)

abbrev pub lists_of : Network → List (ℕ × List ℕ)
lists_of net = map (λ rule. (rule.0, preceding_of net rule)) net.rules

abbrev pub pair_count : Network → ℕ
pair_count net = sum_by (λ list. length list.1) (lists_of net)

-- the numbers of those of a box's rules that precede the rule and meet it
pub record AreFirst (rules : List declared.Rule) (rule : declared.Rule) (numbers : List ℕ) : Type 0 where
  pub all : (number : ℕ) → Contains numbers number → (other : Numbered) × (Contains (map numbered rules) other × ((comes_first (numbered rule) other ≡ true) × (other.0 ≡ number)))
  pub every : (other : Numbered) → Contains (map numbered rules) other → comes_first (numbered rule) other ≡ true → Contains numbers other.0

-- the same of those of a network
pub record AreFirstIn (net : Network) (rule : Numbered) (numbers : List ℕ) : Type 0 where
  pub all : (number : ℕ) → Contains numbers number → (other : Numbered) × (Contains net.rules other × ((comes_first rule other ≡ true) × (other.0 ≡ number)))
  pub every : (other : Numbered) → Contains net.rules other → comes_first rule other ≡ true → Contains numbers other.0

-- the same of those at some places
pub record AreFirstAt (rules : List declared.Rule) (places : List ℕ) (rule : declared.Rule) (numbers : List ℕ) : Type 0 where
  pub all : (number : ℕ) → Contains numbers number → (other : Numbered) × (Contains (map numbered rules) other × ((comes_first (numbered rule) other ≡ true) × (other.0 ≡ number)))
  pub every : (place : ℕ) (other : declared.Rule) → Contains places place → slice_get rules place ≡ Some other → comes_first (numbered rule) (numbered other) ≡ true → Contains numbers other.id

-- the lists that are kept, each with the number of its rule
abbrev pub listed : Overlaps → List (ℕ × List ℕ)
listed over = map (λ list. (list.rule, list.preceding)) over.lists.rows.items

pub record IsOverlaps (net : Network) (over : Overlaps) : Type 0 where
  pub lists : listed over ≡ lists_of net
  pub guides : All (IsGuide net) over.guides.items
