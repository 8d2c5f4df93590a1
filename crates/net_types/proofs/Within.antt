-- A network within its limits stays so with one more part where there is room.
use Rattle.std.proofs.Common.{◌≡◌, ℕ, ◌<◌, ◌≤◌, [], ◌∷◌, length, Some, arith, length-append}
use Rattle.std.proofs.lemmas.List.Elements.{All-nil}
use Rattle.network_model.specs.Bits.{Pattern}
use Rattle.network_model.specs.Network.{value_at, Network, Terminal, Rule, Role}
use Rattle.network_model.specs.Building.{empty, with_box, with_port, with_link, with_terminal, with_permit, with_forbid, with_rule, permitting, forbidding}
use Rattle.network_model.specs.WellFormed.{Rises}
use Rattle.network_model.specs.Limits.{most_boxes, most_ports, most_terminals, most_rules, most_permits, most_forbids}
use Rattle.network_model.specs.Within.{IsWithin}
use Rattle.model_laws.proofs.Numbered.{All-put, All-change_at, length-put, length-put_number, length-change_at}

abbrev FewPermits : ℕ × Terminal → Type 0
FewPermits t = length t.1.permits ≤ most_permits

abbrev FewForbids : ℕ × Terminal → Type 0
FewForbids t = length t.1.forbids ≤ most_forbids

pub empty_within : (width : ℕ) → IsWithin (empty width)
empty_within width = record {
  boxes = omega arith;
  ports = omega arith;
  terminals = omega arith;
  rules = omega arith;
  permits = All-nil FewPermits;
  forbids = All-nil FewForbids;
}

pub box_within : (net : Network) (id : ℕ) → length net.boxes < most_boxes → IsWithin net → IsWithin (with_box id net)
box_within net id room h = record {
  boxes = omega (arith, length-put_number id net.boxes);
  ports = h.ports;
  terminals = h.terminals;
  rules = h.rules;
  permits = h.permits;
  forbids = h.forbids;
}

pub port_within : (net : Network) (id box : ℕ) → length net.ports < most_ports → IsWithin net → IsWithin (with_port id box net)
port_within net id box room h = record {
  boxes = h.boxes;
  ports = omega (arith, length-put id box net.ports);
  terminals = h.terminals;
  rules = h.rules;
  permits = h.permits;
  forbids = h.forbids;
}

pub link_within : (net : Network) (a b : ℕ) → IsWithin net → IsWithin (with_link a b net)
link_within net a b h = record {
  boxes = h.boxes;
  ports = h.ports;
  terminals = h.terminals;
  rules = h.rules;
  permits = h.permits;
  forbids = h.forbids;
}

pub terminal_within : (net : Network) (id port : ℕ) (role : Role) → length net.terminals < most_terminals → IsWithin net → IsWithin (with_terminal id port role net)
terminal_within net id port role room h =
    let new : Terminal = record { port = port; role = role; permits = []; forbids = [] } in
    record {
      boxes = h.boxes;
      ports = h.ports;
      terminals = omega (arith, length-put id new net.terminals);
      rules = h.rules;
      permits = All-put FewPermits id new net.terminals (omega arith) h.permits;
      forbids = All-put FewForbids id new net.terminals (omega arith) h.forbids;
    }

pub rule_within : (net : Network) (id : ℕ) (rule : Rule) → length net.rules < most_rules → IsWithin net → IsWithin (with_rule id rule net)
rule_within net id rule room h = record {
  boxes = h.boxes;
  ports = h.ports;
  terminals = h.terminals;
  rules = omega (arith, length-put id rule net.rules);
  permits = h.permits;
  forbids = h.forbids;
}

pub permit_within : (net : Network) (id : ℕ) (p : Pattern) (t : Terminal) → Rises net.terminals → value_at net.terminals id ≡ Some t
    → length t.permits < most_permits → IsWithin net → IsWithin (with_permit id p net)
permit_within net id p t rises here room h = record {
  boxes = h.boxes;
  ports = h.ports;
  terminals = omega (arith, length-change_at id (permitting p) net.terminals);
  rules = h.rules;
  permits = All-change_at FewPermits id (permitting p) net.terminals
      (λ v there few. let same : v ≡ t = cc in rw same (omega (arith, length-append t.permits (p ∷ [])))) rises h.permits;
  forbids = All-change_at FewForbids id (permitting p) net.terminals (λ v there few. few) rises h.forbids;
}

pub forbid_within : (net : Network) (id : ℕ) (p : Pattern) (t : Terminal) → Rises net.terminals → value_at net.terminals id ≡ Some t
    → length t.forbids < most_forbids → IsWithin net → IsWithin (with_forbid id p net)
forbid_within net id p t rises here room h = record {
  boxes = h.boxes;
  ports = h.ports;
  terminals = omega (arith, length-change_at id (forbidding p) net.terminals);
  rules = h.rules;
  permits = All-change_at FewPermits id (forbidding p) net.terminals (λ v there few. few) rises h.permits;
  forbids = All-change_at FewForbids id (forbidding p) net.terminals
      (λ v there few. let same : v ≡ t = cc in rw same (omega (arith, length-append t.forbids (p ∷ [])))) rises h.forbids;
}
