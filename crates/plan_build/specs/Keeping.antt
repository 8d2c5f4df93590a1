-- What the plan of a changed network takes over from a plan of the network before.
--     numbers_of    the numbers of a network's terminals
--     IsKept        a terminal: both plans have one hop limit and one width, and the change left the terminal as it was
--     AreChanged    of these boxes those that aren't the same in the new network
--     AreParted     these terminals, in those that are kept and the others
--     Overflows     the kept entries and more than so many others are more than the limit
use Rattle.std.specs.Prelude.{◌≡◌, ◌⊎◌, ℕ, ◌+◌, ◌≤◌, List, map, All, Contains}
use Rattle.network_model.specs.Network.{Network, Terminal}
use Rattle.network_model.specs.Table.{HasMore}
use Rattle.net_types.specs.SameParts.{IsSameBox}
use Rattle.change_laws.specs.Unchanged.{IsUnchanged}
use Rattle.rule_cover.specs.PlanValue.{PlanValue}
use Rattle.class_tree.specs.Searched.{StartsAmong}

abbrev pub numbers_of : Network → List ℕ
numbers_of net = map (λ (t : ℕ × Terminal). t.0) net.terminals

pub record IsKept (old : PlanValue) (new : Network) (hops terminal : ℕ) : Type 0 where
  pub hops_same : old.hops ≡ hops
  pub width_same : old.net.width ≡ new.width
  pub unchanged : IsUnchanged old.net new hops terminal

pub record AreChanged (old new : Network) (boxes changed : List ℕ) : Type 0 where
  pub each : All (λ (box : ℕ). IsSameBox old new box → ⊥) changed
  pub rest : (box : ℕ) → Contains boxes box → Contains changed box ⊎ IsSameBox old new box

pub record AreParted (old : PlanValue) (new : Network) (hops : ℕ) (terminals kept others : List ℕ) : Type 0 where
  pub kept_are : All (IsKept old new hops) kept
  pub others_are : All (λ (terminal : ℕ). IsKept old new hops terminal → ⊥) others
  pub all : (terminal : ℕ) → Contains terminals terminal → Contains kept terminal ⊎ Contains others terminal

pub record Overflows (net : Network) (hops : ℕ) (others : List ℕ) (kept limit : ℕ) : Type 0 where
  pub left : ℕ
  pub bound : limit ≤ kept + left
  pub more : HasMore net hops (StartsAmong others) left
