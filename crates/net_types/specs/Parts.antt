-- The parts of a network as the network that they make.
--     network_of    the network of these parts and rules by number
--     IsWithin      of the model, handed on
use Rattle.std.specs.Prelude.{ℕ, List, map}
use Rattle.network_model.specs.Network as model
pub use Rattle.network_model.specs.Within.{IsWithin}
use Rattle.net_types.specs.declared.parts.Port.{Port}
use Rattle.net_types.specs.declared.parts.Link.{Link}
use Rattle.net_types.specs.declared.parts.Terminal.{Terminal}
use Rattle.net_types.specs.declared.parts.Parts.{Parts}
use Rattle.net_types.specs.declared.rule.Rule.{Rule}
use Rattle.net_types.specs.Rules.{numbered}
use Rattle.net_types.specs.Terminals.{role_of}

abbrev pub port_of : Port → ℕ × ℕ
port_of port = (port.id, port.«at»)

abbrev pub link_of : Link → ℕ × ℕ
link_of link = (link.«from», link.to)

-- an entry of a map, as a part
abbrev pub port_at : ℕ × ℕ → Port
port_at e = record { id = e.0; «at» = e.1 }

abbrev pub link_at : ℕ × ℕ → Link
link_at e = record { «from» = e.0; to = e.1 }

abbrev pub terminal_of : Terminal → ℕ × model.Terminal
terminal_of t = (t.id, record { port = t.port; role = role_of t.role; permits = t.permits.items; forbids = t.forbids.items })

abbrev pub network_of : Parts → List Rule → model.Network
network_of parts rules = record {
  width = parts.bits;
  boxes = parts.boxes.items;
  ports = map port_of parts.ports.items;
  links = map link_of parts.links.items;
  terminals = map terminal_of parts.terminals.items;
  rules = map numbered rules;
}
