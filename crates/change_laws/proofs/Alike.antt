-- Two networks that act alike where a terminal's packets come.
--     ActAlike         at a box: it has the same ports in both, and at each the same rule takes a header and the same lies behind
--     IsUndisturbed    a terminal that is the same in both, and the networks act alike at each box that its packets come to in the first
use Rattle.std.specs.Prelude.{◌≡◌, ◌↔◌, ℕ, Some}
use Rattle.network_model.specs.Bits.{Header}
use Rattle.network_model.specs.Network.{value_at, Network, hit}
use Rattle.network_model.specs.Walk.{next}
use Rattle.network_model.specs.Prefixes.{Touches}

pub record ActAlike (a b : Network) (box : ℕ) : Type 0 where
  pub ports : (port : ℕ) → (value_at a.ports port ≡ Some box) ↔ (value_at b.ports port ≡ Some box)
  pub hits : (port : ℕ) (header : Header) → value_at a.ports port ≡ Some box → hit a port header ≡ hit b port header
  pub behind : (port : ℕ) → value_at a.ports port ≡ Some box → next a port ≡ next b port

pub record IsUndisturbed (a b : Network) (hops terminal : ℕ) : Type 0 where
  pub same : value_at a.terminals terminal ≡ value_at b.terminals terminal
  pub boxes : (box : ℕ) → Touches a hops terminal box → ActAlike a b box
