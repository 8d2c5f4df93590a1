-- Pairs of a terminal and a box.
--     AreTouched    exactly those of a terminal and a box that its packets come to within the hop limit
use Rattle.std.specs.Prelude.{◌↔◌, ℕ, List, Contains}
use Rattle.network_model.specs.Network.{Network}
use Rattle.network_model.specs.Prefixes.{Touches}

abbrev pub AreTouched : Network → ℕ → List (ℕ × ℕ) → Type 0
AreTouched net hops pairs = (terminal box : ℕ) → Contains pairs (terminal, box) ↔ Touches net hops terminal box
