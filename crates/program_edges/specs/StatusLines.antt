-- The words of a line that tells how a program ended.
--     fault_word      the word for a fault of a network text
--     bad_net_line    what is told of an input that is no network
use Rattle.std.specs.Prelude.{ℕ, List, ◌++◌, codes}
use Rattle.std.specs.Fmt.{decimal}
use Rattle.net_types.specs.declared.fault.NetFault.TheVariants as net_faults
use Rattle.net_text.specs.declared.fault.TextFault.{TextFault}
use Rattle.net_text.specs.declared.fault.TextFault.TheVariants as faults

abbrev pub fault_word : TextFault → List ℕ
fault_word faults.NoHead = codes "no-head"
fault_word faults.Version = codes "version"
fault_word faults.Words = codes "words"
fault_word faults.Number = codes "number"
fault_word faults.Letters = codes "letters"
fault_word (faults.Net net_faults.Twice) = codes "twice"
fault_word (faults.Net net_faults.Unknown) = codes "unknown"
fault_word (faults.Net net_faults.Limit) = codes "limit"
fault_word (faults.Net net_faults.Width) = codes "width"
fault_word (faults.Net net_faults.PortTaken) = codes "port-taken"
fault_word (faults.Net net_faults.LinkTaken) = codes "link-taken"
fault_word (faults.Net net_faults.EdgeLinked) = codes "edge-linked"
fault_word (faults.Net net_faults.NoMemory) = codes "no-memory"

-- with its line feed
abbrev pub bad_net_line : ℕ → TextFault → List ℕ
bad_net_line number fault = codes "bad network at line " ++ decimal number ++ codes ": " ++ fault_word fault ++ codes "\n"
