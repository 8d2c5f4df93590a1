-- Networks that are not larger than they may be.
--     IsWithin    as many boxes, ports, terminals, rules, permits and forbidden patterns as there may be
use Rattle.std.specs.Prelude.{ℕ, ◌≤◌, length, All}
use Rattle.network_model.specs.Limits.{most_boxes, most_ports, most_terminals, most_rules, most_permits, most_forbids}
use Rattle.network_model.specs.Network.{Network, Terminal}

pub record IsWithin (net : Network) : Type 0 where
  pub boxes : length net.boxes ≤ most_boxes
  pub ports : length net.ports ≤ most_ports
  pub terminals : length net.terminals ≤ most_terminals
  pub rules : length net.rules ≤ most_rules
  pub permits : All (λ (t : ℕ × Terminal). length t.1.permits ≤ most_permits) net.terminals
  pub forbids : All (λ (t : ℕ × Terminal). length t.1.forbids ≤ most_forbids) net.terminals
