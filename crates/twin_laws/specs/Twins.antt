-- Terminals that can't be told apart.
--     IsUnnamed    no rule of the box takes the packets of this port alone
--     AreTwins     two terminals that send, at unnamed ports of one box, with the same permits and forbidden patterns
--     as_from      an entry that begins at another terminal
use Rattle.std.specs.Prelude.{◌≡◌, ◌≢◌, ℕ, Some, IsTrue, Contains}
use Rattle.network_model.specs.Network.{value_at, Network, Terminal, Numbered, OnePort}
use Rattle.network_model.specs.Classes.{sends}
use Rattle.network_model.specs.Table.{Entry}

abbrev pub IsUnnamed : Network → ℕ → ℕ → Type 0
IsUnnamed net box port = (rule : Numbered) → Contains net.rules rule → rule.1.at ≡ box → rule.1.inp ≢ OnePort port

pub record AreTwins (net : Network) (a b : ℕ) : Type 0 where
  pub first : Terminal
  pub first_there : value_at net.terminals a ≡ Some first
  pub first_sends : IsTrue (sends first.role)
  pub second : Terminal
  pub second_there : value_at net.terminals b ≡ Some second
  pub second_sends : IsTrue (sends second.role)
  pub permits : first.permits ≡ second.permits
  pub forbids : first.forbids ≡ second.forbids
  pub box : ℕ
  pub first_inside : value_at net.ports first.port ≡ Some box
  pub second_inside : value_at net.ports second.port ≡ Some box
  pub first_unnamed : IsUnnamed net box first.port
  pub second_unnamed : IsUnnamed net box second.port

abbrev pub as_from : ℕ → Entry → Entry
as_from start e = record { «from» = start; to = e.to; rules = e.rules; least = e.least; greatest = e.greatest; arrives = e.arrives }
