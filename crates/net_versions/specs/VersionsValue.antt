-- A network that changes: how often it changed, and what it is now.
use Rattle.std.specs.Prelude.{ℕ}
use Rattle.network_model.specs.Network.{Network}

pub record VersionsValue : Type 0 where
  pub version : ℕ
  pub net : Network
