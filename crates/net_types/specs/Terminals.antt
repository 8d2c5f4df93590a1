-- Roles of the code as roles of the model, and where a terminal stands.
use Rattle.std.specs.Prelude.{ℕ, Option, None, Some}
use Rattle.net_types.specs.declared.terminal.Role.{Role}
use Rattle.net_types.specs.declared.terminal.Role.TheVariants.{Send, Receive, Both}
use Rattle.network_model.specs.Network as model

abbrev pub role_of : Role → model.Role
role_of Send = model.Send
role_of Receive = model.Receive
role_of Both = model.Both

-- the port and the role of a terminal
abbrev pub place_of : Option model.Terminal → Option (ℕ × model.Role)
place_of None = None
place_of (Some t) = Some (t.port, t.role)

-- the same as the code answers it
abbrev pub answered_place : Option (ℕ × Role) → Option (ℕ × model.Role)
answered_place None = None
answered_place (Some place) = Some (place.0, role_of place.1)
