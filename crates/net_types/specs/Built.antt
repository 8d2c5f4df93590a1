-- A builder's maps and sets as the network that is built so far.
--     built       that network
--     IsBuilt     the network is well formed and within the limits, the edges are the terminals' ports, and terminals and
--                 rules stand under their numbers
use Rattle.std.specs.Prelude.{◌≡◌, ℕ, nat_eq, List, map, All}
use Rattle.std.specs.List.{list_any}
use Rattle.network_model.specs.Network as model
use Rattle.network_model.specs.WellFormed.{IsWellFormed}
use Rattle.net_types.specs.declared.builder.NetBuilder.TheInside.{Inside}
use Rattle.net_types.specs.declared.parts.Terminal.{Terminal}
use Rattle.net_types.specs.declared.rule.Rule.{Rule}
use Rattle.network_model.specs.Within.{IsWithin}
use Rattle.net_types.specs.Parts.{terminal_of}
use Rattle.net_types.specs.Refusals.{is_edge}
use Rattle.net_types.specs.Rules.{model_of}

-- each thing of a list of numbered things, read by g
abbrev pub by_number : {X Y : Type 0} → (X → Y) → List (ℕ × X) → List (ℕ × Y)
by_number g es = map (λ e. (e.0, g e.1)) es

abbrev pub terminal_model : Terminal → model.Terminal
terminal_model t = (terminal_of t).1

abbrev pub built : Inside → model.Network
built b = record {
  width = b.bits;
  boxes = b.boxes.keys;
  ports = b.ports.entries;
  links = b.links.entries;
  terminals = by_number terminal_model b.terminals.entries;
  rules = by_number model_of b.rules.entries;
}

pub record IsBuilt (b : Inside) : Type 0 where
  pub well_formed : IsWellFormed (built b)
  pub within : IsWithin (built b)
  pub edges : (port : ℕ) → list_any (nat_eq port) b.edges.keys ≡ is_edge (built b) port
  pub terminals : All (λ (e : ℕ × Terminal). e.1.id ≡ e.0) b.terminals.entries
  pub rules : All (λ (e : ℕ × Rule). e.1.id ≡ e.0) b.rules.entries
