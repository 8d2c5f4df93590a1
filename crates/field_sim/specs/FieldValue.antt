-- A field of boxes: the network, how many rules a packet may meet, the rules that lose their packets, the packets that wait,
-- each with its terminal, and how many sends it took, packets it gave and answers of none.
use Rattle.std.specs.Prelude.{ℕ, List}
use Rattle.network_model.specs.Network.{Network}

pub record FieldValue : Type 0 where
  pub net : Network
  pub hops : ℕ
  pub bad : List ℕ
  pub waiting : List (ℕ × List ℕ)
  pub sent : ℕ
  pub given : ℕ
  pub dry : ℕ
