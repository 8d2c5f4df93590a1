-- Why reading stops at a line.
--     stop_of    at a fault of the network
--     at_line    what is said of a line of that number
use Rattle.std.specs.Prelude.{ℕ}
use Rattle.net_types.specs.declared.fault.NetFault.{NetFault}
use Rattle.net_types.specs.declared.fault.NetFault.TheVariants as net_faults
use Rattle.net_text.specs.declared.fault.TextFault.TheVariants as faults
use Rattle.net_text.specs.declared.fault.ReadNet.{ReadNet}
use Rattle.net_text.specs.declared.fault.ReadNet.TheVariants as reads
use Rattle.net_text.specs.declared.fault.Stop.{Stop}
use Rattle.net_text.specs.declared.fault.Stop.TheVariants as stops

abbrev pub stop_of : NetFault → Stop
stop_of net_faults.NoMemory = stops.NoMemory
stop_of fault = stops.Fault (faults.Net fault)

abbrev pub at_line : ℕ → Stop → ReadNet
at_line line (stops.Fault fault) = reads.BadNet line fault
at_line line stops.NoMemory = reads.NoMemory
