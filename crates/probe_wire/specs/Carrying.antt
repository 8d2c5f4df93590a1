-- What a field of boxes does with a packet.
--     carried    the packet with the header with which it arrives, at the terminal where it does
--     added      what waits in addition after a packet was sent: one that decodes with the width of the network and that no
--                bad rule loses arrives, and nothing else does
use Rattle.std.specs.Prelude.{ℕ, ◌==◌, List, [], ◌∷◌, length, Option, None, Some, if◌then◌else◌}
use Rattle.network_model.specs.Bits.{Header}
use Rattle.network_model.specs.Network.{Network}
use Rattle.network_model.specs.Field.{field}
use Rattle.probe_wire.specs.declared.probe.Probe.{Probe}
use Rattle.probe_wire.specs.Packet.{packet}
use Rattle.probe_wire.specs.Reading.{probe_in}

abbrev pub carried : Probe → Option (ℕ × Header) → List (ℕ × List ℕ)
carried p None = []
carried p (Some arrival) = (arrival.0, packet (record { round = p.round; version = p.version; entry = p.entry; header = arrival.1 })) ∷ []

abbrev pub carried_in : Network → ℕ → List ℕ → ℕ → Option Probe → List (ℕ × List ℕ)
carried_in net hops bad from None = []
carried_in net hops bad from (Some p) = if length p.header == net.width then carried p (field net hops bad from p.header) else []

unfoldable pub added : Network → ℕ → List ℕ → ℕ → List ℕ → List (ℕ × List ℕ)
added net hops bad from bytes = carried_in net hops bad from (probe_in bytes)
