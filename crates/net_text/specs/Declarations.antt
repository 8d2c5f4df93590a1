-- The declarations of a network text.
--     Declaration    what one line declares
--     declaration    what the words of a line declare in a text of that version, or their first fault
--     refusal        why the declarations so far don't let this one stand, found by searching them
use Rattle.std.specs.Prelude.{ℕ, ◌-◌, ◌^◌, ◌==◌, nat_lt, nat_le, Bool, true, false, not, ◌&&◌, ◌||◌, List, [], ◌∷◌, length, Option, Some, None, codes, if◌then◌else◌}
use Rattle.std.specs.List.{list_any, count_by}
use Rattle.std.specs.Str.{bytes_eq}
use Rattle.network_model.specs.Bits.{Pattern}
use Rattle.network_model.specs.Rewrites.{Rewrite, kept}
use Rattle.network_model.specs.Limits.{most_boxes, most_ports, most_terminals, most_permits, most_forbids, most_rules}
use Rattle.network_model.specs.Network.{Rule, InPort, AnyPort, OnePort, Action, Drop, Out, Role, Send, Receive, Both}
use Rattle.ternary_bits.specs.Letters.{pattern_word, rewrite_word}
use Rattle.ternary_bits.specs.Moves.{letters_or_moves}
use Rattle.net_types.specs.Refusals.{Refusal, Twice, Unknown, Limit, Width, PortTaken, LinkTaken, EdgeLinked, first_of, moves_fit}
use Rattle.net_text.specs.declared.fault.TextFault.{TextFault}
use Rattle.net_text.specs.declared.fault.TextFault.TheVariants as faults
use Rattle.net_text.specs.declared.version.Version.{Version}
use Rattle.net_text.specs.declared.version.Version.TheVariants.{One, Two}
use Rattle.text_words.specs.Numbers.{number_upto}

pub data Declaration : Type 0 where
  DeclareBox : (id : ℕ) → Declaration
  DeclarePort : (id box : ℕ) → Declaration
  DeclareLink : (a b : ℕ) → Declaration
  DeclareTerminal : (id port : ℕ) (role : Role) → Declaration
  DeclarePermit : (terminal : ℕ) (pattern : Pattern) → Declaration
  DeclareForbid : (terminal : ℕ) (pattern : Pattern) → Declaration
  DeclareRule : (id : ℕ) (rule : Rule) → Declaration

-- a value, or the first fault
pub data Outcome (A : Type 0) : Type 0 where
  Good : (value : A) → Outcome A
  Bad : (fault : TextFault) → Outcome A

abbrev pub or_fault : {A : Type 0} → TextFault → Option A → Outcome A
or_fault fault None = Bad fault
or_fault fault (Some a) = Good a

abbrev pub and_then : {A B : Type 0} → Outcome A → (A → Outcome B) → Outcome B
and_then (Bad fault) go_on = Bad fault
and_then (Good a) go_on = go_on a

abbrev pub numeral : List ℕ → Outcome ℕ
numeral word = or_fault faults.Number (number_upto (2 ^ 32 - 1) word)

abbrev pub letters : List ℕ → Outcome Pattern
letters word = or_fault faults.Letters (pattern_word word)

abbrev pub role : List ℕ → Outcome Role
role word =
    if bytes_eq word (codes "send") then Good Send
    else (if bytes_eq word (codes "receive") then Good Receive
    else (if bytes_eq word (codes "both") then Good Both else Bad faults.Words))

abbrev pub in_port : List ℕ → Outcome InPort
in_port word = if bytes_eq word (codes "*") then Good AnyPort else and_then (numeral word) (λ p. Good (OnePort p))

-- the port that a rule sends to; none where it drops
abbrev pub out_port : List ℕ → Outcome (Option ℕ)
out_port word = if bytes_eq word (codes "drop") then Good None else and_then (numeral word) (λ p. Good (Some p))

-- in version 1 a rewrite is of letters alone
abbrev pub rewrite_of : Version → List ℕ → Option Rewrite
rewrite_of One word = rewrite_word word
rewrite_of Two word = letters_or_moves word

-- the words of a rewrite; without one each bit stays
abbrev pub rewrite : Version → Pattern → List (List ℕ) → Outcome Rewrite
rewrite version pattern [] = Good (kept (length pattern))
rewrite version pattern (word ∷ rest) = or_fault faults.Letters (rewrite_of version word)

abbrev pub action : Option ℕ → Rewrite → Action
action None moves = Drop
action (Some port) moves = Out port moves

-- the words after `rule`; seven words in all, or eight for a rule that doesn't drop
abbrev pub rule_of : Version → List (List ℕ) → Outcome (ℕ × Rule)
rule_of version (id ∷ box ∷ priority ∷ inp ∷ pattern ∷ out ∷ more) =
    if nat_lt 1 (length more) || (bytes_eq out (codes "drop") && nat_lt 0 (length more)) then Bad faults.Words
    else and_then (numeral id) (λ id. and_then (numeral box) (λ box. and_then (numeral priority) (λ priority.
    and_then (in_port inp) (λ inp. and_then (letters pattern) (λ pattern. and_then (out_port out) (λ out.
    and_then (rewrite version pattern more) (λ moves. Good
    (id, record { at = box; priority = priority; inp = inp; pattern = pattern; action = action out moves }))))))))
rule_of version few = Bad faults.Words

-- the words of a rule outside a text are those of version 2
abbrev pub rule_alone : List (List ℕ) → Outcome (ℕ × Rule)
rule_alone words = rule_of Two words

abbrev pub box_of : List (List ℕ) → Outcome Declaration
box_of (id ∷ []) = and_then (numeral id) (λ id. Good (DeclareBox id))
box_of other = Bad faults.Words

abbrev pub two_numbers : (ℕ → ℕ → Declaration) → List (List ℕ) → Outcome Declaration
two_numbers make (a ∷ b ∷ []) = and_then (numeral a) (λ a. and_then (numeral b) (λ b. Good (make a b)))
two_numbers make other = Bad faults.Words

abbrev pub terminal_of : List (List ℕ) → Outcome Declaration
terminal_of (id ∷ port ∷ how ∷ []) =
    and_then (numeral id) (λ id. and_then (numeral port) (λ port. and_then (role how) (λ how. Good (DeclareTerminal id port how))))
terminal_of other = Bad faults.Words

abbrev pub terminal_and_pattern : List (List ℕ) → Outcome (ℕ × Pattern)
terminal_and_pattern (terminal ∷ pattern ∷ []) =
    and_then (numeral terminal) (λ terminal. and_then (letters pattern) (λ pattern. Good (terminal, pattern)))
terminal_and_pattern other = Bad faults.Words

abbrev pub permit_of : List (List ℕ) → Outcome Declaration
permit_of words = and_then (terminal_and_pattern words) (λ t. Good (DeclarePermit t.0 t.1))

-- a text of version 1 forbids nothing
abbrev pub forbid_of : Version → List (List ℕ) → Outcome Declaration
forbid_of One words = Bad faults.Words
forbid_of Two words = and_then (terminal_and_pattern words) (λ t. Good (DeclareForbid t.0 t.1))

abbrev pub declaration : Version → List ℕ → List (List ℕ) → Outcome Declaration
declaration version first rest =
    if bytes_eq first (codes "box") then box_of rest
    else (if bytes_eq first (codes "port") then two_numbers DeclarePort rest
    else (if bytes_eq first (codes "link") then two_numbers DeclareLink rest
    else (if bytes_eq first (codes "term") then terminal_of rest
    else (if bytes_eq first (codes "permit") then permit_of rest
    else (if bytes_eq first (codes "forbid") then forbid_of version rest
    else (if bytes_eq first (codes "rule") then and_then (rule_of version rest) (λ r. Good (DeclareRule r.0 r.1))
    else Bad faults.Words))))))

-- tests of one declaration
abbrev pub is_any_box : Declaration → Bool
is_any_box (DeclareBox id) = true
is_any_box _ = false

abbrev pub is_box : ℕ → Declaration → Bool
is_box box (DeclareBox id) = id == box
is_box box _ = false

abbrev pub is_any_port : Declaration → Bool
is_any_port (DeclarePort id box) = true
is_any_port _ = false

abbrev pub is_port : ℕ → Declaration → Bool
is_port port (DeclarePort id box) = id == port
is_port port _ = false

abbrev pub is_port_at : ℕ → ℕ → Declaration → Bool
is_port_at box port (DeclarePort id at) = (id == port) && (at == box)
is_port_at box port _ = false

abbrev pub links : ℕ → Declaration → Bool
links port (DeclareLink a b) = (a == port) || (b == port)
links port _ = false

abbrev pub is_any_terminal : Declaration → Bool
is_any_terminal (DeclareTerminal id port role) = true
is_any_terminal _ = false

abbrev pub is_terminal : ℕ → Declaration → Bool
is_terminal terminal (DeclareTerminal id port role) = id == terminal
is_terminal terminal _ = false

abbrev pub is_edge : ℕ → Declaration → Bool
is_edge at (DeclareTerminal id port role) = port == at
is_edge at _ = false

abbrev pub permits_at : ℕ → Declaration → Bool
permits_at terminal (DeclarePermit t pattern) = t == terminal
permits_at terminal _ = false

abbrev pub forbids_at : ℕ → Declaration → Bool
forbids_at terminal (DeclareForbid t pattern) = t == terminal
forbids_at terminal _ = false

abbrev pub is_any_rule : Declaration → Bool
is_any_rule (DeclareRule id rule) = true
is_any_rule _ = false

abbrev pub is_rule : ℕ → Declaration → Bool
is_rule number (DeclareRule id rule) = id == number
is_rule number _ = false

abbrev pub known_in : List Declaration → ℕ → InPort → Bool
known_in before box AnyPort = true
known_in before box (OnePort port) = list_any (is_port_at box port) before

abbrev pub known_out : List Declaration → ℕ → Action → Bool
known_out before box Drop = true
known_out before box (Out port moves) = list_any (is_port_at box port) before

abbrev pub refusal : ℕ → List Declaration → Declaration → Option Refusal
refusal width before (DeclareBox id) = first_of (
    (list_any (is_box id) before, Twice)
    ∷ (nat_le most_boxes (count_by is_any_box before), Limit) ∷ [])
refusal width before (DeclarePort id box) = first_of (
    (list_any (is_port id) before, Twice)
    ∷ (not (list_any (is_box box) before), Unknown)
    ∷ (nat_le most_ports (count_by is_any_port before), Limit) ∷ [])
refusal width before (DeclareLink a b) = first_of (
    (not (list_any (is_port a) before && list_any (is_port b) before), Unknown)
    ∷ ((a == b) || (list_any (links a) before || list_any (links b) before), LinkTaken)
    ∷ (list_any (is_edge a) before || list_any (is_edge b) before, EdgeLinked) ∷ [])
refusal width before (DeclareTerminal id port role) = first_of (
    (list_any (is_terminal id) before, Twice)
    ∷ (not (list_any (is_port port) before), Unknown)
    ∷ (nat_le most_terminals (count_by is_any_terminal before), Limit)
    ∷ (list_any (is_edge port) before, PortTaken)
    ∷ (list_any (links port) before, EdgeLinked) ∷ [])
refusal width before (DeclarePermit terminal pattern) = first_of (
    (not (list_any (is_terminal terminal) before), Unknown)
    ∷ (nat_le most_permits (count_by (permits_at terminal) before), Limit)
    ∷ (not (length pattern == width), Width) ∷ [])
refusal width before (DeclareForbid terminal pattern) = first_of (
    (not (list_any (is_terminal terminal) before), Unknown)
    ∷ (nat_le most_forbids (count_by (forbids_at terminal) before), Limit)
    ∷ (not (length pattern == width), Width) ∷ [])
refusal width before (DeclareRule id rule) = first_of (
    (list_any (is_rule id) before, Twice)
    ∷ (not (list_any (is_box rule.at) before && (known_in before rule.at rule.inp && known_out before rule.at rule.action)), Unknown)
    ∷ (nat_le most_rules (count_by is_any_rule before), Limit)
    ∷ (not ((length rule.pattern == width) && moves_fit width rule.action), Width) ∷ [])
