-- The parts of what a terminal may send.
--     sends_at       a terminal that sends stands there
--     permits_by     the permits of a terminal
--     forbids_by     the forbidden patterns of a terminal
--     sent_by        the permits of a terminal that sends; one that only receives sends nothing, whatever it permits
use Rattle.std.specs.Prelude.{ℕ, Bool, false, List, [], Option, None, Some, if◌then◌else◌}
use Rattle.network_model.specs.Bits.{Pattern}
use Rattle.network_model.specs.Network.{value_at, Network, Terminal}
use Rattle.network_model.specs.Classes.{sends}

abbrev pub may_send : Option Terminal → Bool
may_send None = false
may_send (Some t) = sends t.role

abbrev pub sends_at : Network → ℕ → Bool
sends_at net terminal = may_send (value_at net.terminals terminal)

abbrev pub permits_of : Option Terminal → List Pattern
permits_of None = []
permits_of (Some t) = t.permits

abbrev pub forbids_of : Option Terminal → List Pattern
forbids_of None = []
forbids_of (Some t) = t.forbids

abbrev pub permits_by : Network → ℕ → List Pattern
permits_by net terminal = permits_of (value_at net.terminals terminal)

abbrev pub forbids_by : Network → ℕ → List Pattern
forbids_by net terminal = forbids_of (value_at net.terminals terminal)

abbrev pub sent_by : Network → ℕ → List Pattern
sent_by net terminal = if sends_at net terminal then permits_by net terminal else []
