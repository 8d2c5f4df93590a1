-- A terminal that a change of the network leaves as it was.
--     IsUnchanged     it is the same in both networks, and so is each box that its packets come to in the old one
use Rattle.std.specs.Prelude.{ℕ}
use Rattle.network_model.specs.Network.{Network}
use Rattle.network_model.specs.Prefixes.{Touches}
use Rattle.net_types.specs.SameParts.{IsSameBox, IsSameTerminal}

pub record IsUnchanged (old new : Network) (hops terminal : ℕ) : Type 0 where
  pub same : IsSameTerminal old new terminal
  pub boxes : (box : ℕ) → Touches old hops terminal box → IsSameBox old new box
