-- Boxes and terminals that are the same in two networks.
--     terminal_at      the terminal at a port, and its role
--     IsSamePort       the same link or none leads from the port, and the same terminal stands there in the same role, or none
--     IsSameBox        both have the box, with the same ports, the same at each of them, and the same rules
--     IsSameTerminal   both have the terminal, at the same port, in the same role, with the same permits and forbidden patterns
use Rattle.std.specs.Prelude.{◌≡◌, ◌==◌, ◌↔◌, ℕ, Option, Some, IsSome, Contains}
use Rattle.std.specs.List.{find}
use Rattle.std.specs.Option.{option_map}
use Rattle.network_model.specs.Network.{value_at, Network, Numbered, Role, Terminal}

abbrev pub terminal_at : Network → ℕ → Option (ℕ × Role)
terminal_at net port =
    option_map (λ (t : ℕ × Terminal). (t.0, t.1.role)) (find (λ (t : ℕ × Terminal). t.1.port == port) net.terminals)

pub record IsSamePort (mine theirs : Network) (port : ℕ) : Type 0 where
  pub link : value_at mine.links port ≡ value_at theirs.links port
  pub terminal : terminal_at mine port ≡ terminal_at theirs port

pub record IsSameBox (mine theirs : Network) (box : ℕ) : Type 0 where
  pub here : Contains mine.boxes box
  pub there : Contains theirs.boxes box
  pub ports : (port : ℕ) → (value_at mine.ports port ≡ Some box) ↔ (value_at theirs.ports port ≡ Some box)
  pub behind : (port : ℕ) → value_at mine.ports port ≡ Some box → IsSamePort mine theirs port
  pub rules : (rule : Numbered) → rule.1.at ≡ box → Contains mine.rules rule ↔ Contains theirs.rules rule

-- what a network has at a terminal's number is its port, its role, its permits and its forbidden patterns
pub record IsSameTerminal (mine theirs : Network) (terminal : ℕ) : Type 0 where
  pub here : IsSome (value_at mine.terminals terminal)
  pub same : value_at mine.terminals terminal ≡ value_at theirs.terminals terminal
