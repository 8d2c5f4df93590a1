-- A desk as contracts see it: the network that it began with, the hop limit of its plans, how many entries its log may have,
-- and the log, whose first entry is the earliest.
--     is_full    the log has as many entries as it may have
use Rattle.std.specs.Prelude.{ℕ, nat_le, Bool, List, length}
use Rattle.network_model.specs.Network.{Network}
use Rattle.desk_core.specs.declared.event.Logged.{Logged}

pub record DeskValue : Type 0 where
  pub opening : Network
  pub hops : ℕ
  pub room : ℕ
  pub log : List Logged

abbrev pub is_full : DeskValue → Bool
is_full desk = nat_le desk.room (length desk.log)
