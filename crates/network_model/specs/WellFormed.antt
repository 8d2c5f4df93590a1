-- Networks whose parts fit together, as those that are built do.
--     Rises           the numbers of a list of numbered things rise strictly
--     FitsRule        a rule stands at a box, its ports are of that box, it is as wide as the network, and it takes no bit
--                     from past that width
--     IsWellFormed    numbers rise, what is named is there, links lead both ways, a port has at most one link or one
--                     terminal and never both, and all is as wide as the network
use Rattle.std.specs.Prelude.{◌≡◌, ◌≢◌, ℕ, ◌≤◌, List, map, length, Some, IsNone, IsSome, All, AllPairs, Contains}
use Rattle.std.specs.List.Sorted.{IsStrictlyIncreasing}
use Rattle.network_model.specs.Bits.{Pattern}
use Rattle.network_model.specs.Rewrites.{AreWithin}
use Rattle.network_model.specs.Network.{value_at, Network, Terminal, Rule, Numbered, InPort, AnyPort, OnePort, Action, Drop, Out}

abbrev pub Rises : {A : Type 0} → List (ℕ × A) → Type 0
Rises list = IsStrictlyIncreasing (map (λ e. e.0) list)

abbrev pub FitsIn : Network → ℕ → InPort → Type 0
FitsIn net box AnyPort = Unit {0}
FitsIn net box (OnePort port) = value_at net.ports port ≡ Some box

abbrev pub FitsOut : Network → ℕ → Action → Type 0
FitsOut net box Drop = Unit {0}
FitsOut net box (Out port rewrite) = (value_at net.ports port ≡ Some box) × (length rewrite ≡ net.width) × AreWithin net.width rewrite

pub record FitsRule (net : Network) (rule : Rule) : Type 0 where
  pub box : Contains net.boxes rule.at
  pub inp : FitsIn net rule.at rule.inp
  pub pattern : length rule.pattern ≡ net.width
  pub out : FitsOut net rule.at rule.action

pub record FitsTerminal (net : Network) (terminal : Terminal) : Type 0 where
  pub port : IsSome (value_at net.ports terminal.port)
  pub unlinked : IsNone (value_at net.links terminal.port)
  pub permits : All (λ (p : Pattern). length p ≡ net.width) terminal.permits
  pub forbids : All (λ (p : Pattern). length p ≡ net.width) terminal.forbids

pub record FitsLink (net : Network) (a b : ℕ) : Type 0 where
  pub port : IsSome (value_at net.ports a)
  pub other : a ≢ b
  pub back : value_at net.links b ≡ Some a

pub record IsWellFormed (net : Network) : Type 0 where
  pub width : (1 ≤ net.width) × (net.width ≤ 128)
  pub boxes : IsStrictlyIncreasing net.boxes
  pub ports : Rises net.ports
  pub links : Rises net.links
  pub terminals : Rises net.terminals
  pub rules : Rises net.rules
  pub homes : All (λ (p : ℕ × ℕ). Contains net.boxes p.1) net.ports
  pub joined : (a b : ℕ) → value_at net.links a ≡ Some b → FitsLink net a b
  pub placed : All (λ (t : ℕ × Terminal). FitsTerminal net t.1) net.terminals
  pub apart : AllPairs (λ (s t : ℕ × Terminal). s.1.port ≢ t.1.port) net.terminals
  pub ruled : All (λ (r : Numbered). FitsRule net r.1) net.rules
