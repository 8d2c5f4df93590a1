-- The rules of a box as a guide keeps them.
--     IsTried       the rules of a box in the order in which it tries them
--     IsGuide       an index has their patterns
use Rattle.std.specs.Prelude.{◌≡◌, ℕ, true, List, map, Some, All, AllPairs, Contains}
use Rattle.std.specs.List.{find}
use Rattle.network_model.specs.Bits.{Header}
use Rattle.network_model.specs.Network.{Network, Numbered, value_at, takes, precedes, hit}
use Rattle.network_model.specs.WellFormed.{FitsRule}
use Rattle.pattern_index.specs.Trees.{IsIndexOf}
use Rattle.net_types.specs.declared.rule.Rule.{Rule}
use Rattle.net_types.specs.Rules.{model_of, numbered}
use Rattle.box_step.specs.declared.guide.Guide.{Guide}

pub record IsTried (net : Network) (box : ℕ) (rules : List Rule) : Type 0 where
  pub first : (port : ℕ) (header : Header) → value_at net.ports port ≡ Some box → hit net port header ≡ find (takes net port header) (map numbered rules)
  pub all : (rule : Numbered) → Contains (map numbered rules) rule → Contains net.rules rule × (rule.1.at ≡ box)
  pub every : (rule : Numbered) → Contains net.rules rule → rule.1.at ≡ box → Contains (map numbered rules) rule
  pub order : AllPairs (λ a b. precedes (numbered a) (numbered b) ≡ true) rules
  pub fit : All (λ rule. FitsRule net (model_of rule)) rules

pub record IsGuide (net : Network) (guide : Guide) : Type 0 where
  pub tried : IsTried net guide.«at» guide.rules.items
  pub width : guide.index.width ≡ net.width
  pub patterns : IsIndexOf guide.index (map (λ (rule : Rule). rule.pattern) guide.rules.items)
