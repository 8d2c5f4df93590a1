-- Why a network so far doesn't take a part, by what it has.
--     box_refusal, port_refusal, ..   the first refusal that is due; none where the part is taken
--     Answers                         a call gives the refusal that is due, Ok where none is, or NoMemory
use Rattle.std.specs.Prelude.{◌≡◌, ℕ, ◌==◌, nat_eq, nat_le, Bool, true, not, ◌&&◌, ◌||◌, List, [], ◌∷◌, length, Option, Some, None, is_some, Result, Ok, Err, if◌then◌else◌}
use Rattle.std.specs.List.{list_any}
use Rattle.network_model.specs.Bits.{Pattern}
use Rattle.network_model.specs.Network.{value_at, is_at, Network, Terminal, Rule, InPort, AnyPort, OnePort, Action, Drop, Out}
use Rattle.network_model.specs.Limits.{most_bits, most_boxes, most_ports, most_terminals, most_rules, most_permits, most_forbids}
use Rattle.net_types.specs.declared.fault.NetFault.{NetFault}
use Rattle.net_types.specs.declared.fault.NetFault.TheVariants as faults

pub data Refusal : Type 0 where
  Twice : Refusal
  Unknown : Refusal
  Limit : Refusal
  Width : Refusal
  PortTaken : Refusal
  LinkTaken : Refusal
  EdgeLinked : Refusal

-- the first of these that holds
abbrev pub first_of : List (Bool × Refusal) → Option Refusal
first_of [] = None
first_of (r ∷ rs) = if r.0 then Some r.1 else first_of rs

abbrev pub has_box : Network → ℕ → Bool
has_box net box = list_any (nat_eq box) net.boxes

abbrev pub has_port : Network → ℕ → Bool
has_port net port = is_some (value_at net.ports port)

abbrev pub has_port_at : Network → ℕ → ℕ → Bool
has_port_at net box port = is_at (value_at net.ports port) box

abbrev pub is_linked : Network → ℕ → Bool
is_linked net port = is_some (value_at net.links port)

abbrev pub is_edge : Network → ℕ → Bool
is_edge net port = list_any (λ t. t.1.port == port) net.terminals

abbrev pub width_refusal : ℕ → Option Refusal
width_refusal bits = if nat_le 1 bits && nat_le bits most_bits then None else Some Width

abbrev pub box_refusal : Network → ℕ → Option Refusal
box_refusal net id = first_of ((has_box net id, Twice) ∷ (nat_le most_boxes (length net.boxes), Limit) ∷ [])

abbrev pub port_refusal : Network → ℕ → ℕ → Option Refusal
port_refusal net id box = first_of (
    (has_port net id, Twice) ∷ (not (has_box net box), Unknown) ∷ (nat_le most_ports (length net.ports), Limit) ∷ [])

abbrev pub link_refusal : Network → ℕ → ℕ → Option Refusal
link_refusal net a b = first_of (
    (not (has_port net a && has_port net b), Unknown)
    ∷ ((a == b) || (is_linked net a || is_linked net b), LinkTaken)
    ∷ (is_edge net a || is_edge net b, EdgeLinked) ∷ [])

abbrev pub terminal_refusal : Network → ℕ → ℕ → Option Refusal
terminal_refusal net id port = first_of (
    (is_some (value_at net.terminals id), Twice)
    ∷ (not (has_port net port), Unknown)
    ∷ (nat_le most_terminals (length net.terminals), Limit)
    ∷ (is_edge net port, PortTaken)
    ∷ (is_linked net port, EdgeLinked) ∷ [])

-- of one more pattern at a terminal that has so many
abbrev pub pattern_refusal : ℕ → ℕ → ℕ → Pattern → Option Refusal
pattern_refusal most had width pattern =
    first_of ((nat_le most had, Limit) ∷ (not (length pattern == width), Width) ∷ [])

abbrev pub permit_refusal_at : ℕ → Option Terminal → Pattern → Option Refusal
permit_refusal_at width None pattern = Some Unknown
permit_refusal_at width (Some t) pattern = pattern_refusal most_permits (length t.permits) width pattern

abbrev pub permit_refusal : Network → ℕ → Pattern → Option Refusal
permit_refusal net terminal pattern = permit_refusal_at net.width (value_at net.terminals terminal) pattern

abbrev pub forbid_refusal_at : ℕ → Option Terminal → Pattern → Option Refusal
forbid_refusal_at width None pattern = Some Unknown
forbid_refusal_at width (Some t) pattern = pattern_refusal most_forbids (length t.forbids) width pattern

abbrev pub forbid_refusal : Network → ℕ → Pattern → Option Refusal
forbid_refusal net terminal pattern = forbid_refusal_at net.width (value_at net.terminals terminal) pattern

abbrev pub known_in : Network → ℕ → InPort → Bool
known_in net box AnyPort = true
known_in net box (OnePort port) = has_port_at net box port

abbrev pub known_out : Network → ℕ → Action → Bool
known_out net box Drop = true
known_out net box (Out port rewrite) = has_port_at net box port

abbrev pub moves_fit : ℕ → Action → Bool
moves_fit width Drop = true
moves_fit width (Out port rewrite) = length rewrite == width

abbrev pub rule_refusal : Network → ℕ → Rule → Option Refusal
rule_refusal net id rule = first_of (
    (is_some (value_at net.rules id), Twice)
    ∷ (not (has_box net rule.at && (known_in net rule.at rule.inp && known_out net rule.at rule.action)), Unknown)
    ∷ (nat_le most_rules (length net.rules), Limit)
    ∷ (not ((length rule.pattern == net.width) && moves_fit net.width rule.action), Width) ∷ [])

abbrev pub FaultAnswers : NetFault → Option Refusal → Type 0
FaultAnswers faults.Twice due = due ≡ Some Twice
FaultAnswers faults.Unknown due = due ≡ Some Unknown
FaultAnswers faults.Limit due = due ≡ Some Limit
FaultAnswers faults.Width due = due ≡ Some Width
FaultAnswers faults.PortTaken due = due ≡ Some PortTaken
FaultAnswers faults.LinkTaken due = due ≡ Some LinkTaken
FaultAnswers faults.EdgeLinked due = due ≡ Some EdgeLinked
FaultAnswers faults.NoMemory due = Unit {0}

abbrev pub Answers : {X : Type 0} → Result X NetFault → Option Refusal → Type 0
Answers (Ok x) due = due ≡ None
Answers (Err fault) due = FaultAnswers fault due
