-- When a network with all places of the generated one takes a rule.
--     TakesFrom   it has these places, and its rules have numbers below this one and are no more than it says
--     Fits        a rule stands at a box that is there, its ports are of that box, and it has 128 bits
use Rattle.std.specs.Prelude.{◌≡◌, ℕ, ◌<◌, ◌≤◌, ◌==◌, ◌&&◌, true, List, length, All}
use Rattle.network_model.specs.Network.{Network, Numbered, Rule}
use Rattle.net_types.specs.Refusals.{has_box, known_in, known_out, moves_fit}
use Rattle.net_grow.specs.Places.{places}

abbrev pub with_rules : List Numbered → Network
with_rules rules = record (places 16) { rules = rules }

pub record TakesFrom (net : Network) (number : ℕ) : Type 0 where
  pub has_places : net ≡ with_rules net.rules
  pub below : All (λ (r : Numbered). r.0 < number) net.rules
  pub few : length net.rules ≤ number

pub record Fits (rule : Rule) : Type 0 where
  pub known : (has_box (places 16) rule.at && (known_in (places 16) rule.at rule.inp && known_out (places 16) rule.at rule.action)) ≡ true
  pub wide : ((length rule.pattern == 128) && moves_fit 128 rule.action) ≡ true
