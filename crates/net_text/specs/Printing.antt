-- The text of a network.
--     spelled          the words of a declaration
--     declared_by      what a network declares, in the order in which its text has it
--     network_text     the head, always of version 2, and then a line for each declaration
use Rattle.std.specs.Prelude.{ℕ, ◌+◌, ◌==◌, nat_lt, Bool, true, false, ◌&&◌, List, [], ◌∷◌, ◌++◌, map, codes, if◌then◌else◌}
use Rattle.std.specs.List.{filter, flat_map}
use Rattle.std.specs.Fmt.{decimal}
use Rattle.network_model.specs.Rewrites.{Rewrite, Set, Old}
use Rattle.network_model.specs.Network.{Network, Terminal, Rule, InPort, AnyPort, OnePort, Action, Drop, Out, Role, Send, Receive, Both}
use Rattle.ternary_bits.specs.Letters.{pattern_text}
use Rattle.ternary_bits.specs.Moves.{rewrite_text}
use Rattle.text_lines.specs.Lines.{line}
use Rattle.net_text.specs.Declarations.{Declaration, DeclareBox, DeclarePort, DeclareLink, DeclareTerminal, DeclarePermit, DeclareForbid, DeclareRule}

abbrev pub role_word : Role → List ℕ
role_word Send = codes "send"
role_word Receive = codes "receive"
role_word Both = codes "both"

abbrev pub in_word : InPort → List ℕ
in_word AnyPort = codes "*"
in_word (OnePort port) = decimal port

-- each place from this one on keeps its bit
abbrev pub keeps_from : ℕ → Rewrite → Bool
keeps_from place [] = true
keeps_from place (Set bit ∷ items) = false
keeps_from place (Old old ∷ items) = (old == place) && keeps_from (place + 1) items

-- a rewrite that keeps all bits is left out
abbrev pub rewrite_words : Rewrite → List (List ℕ)
rewrite_words moves = if keeps_from 1 moves then [] else rewrite_text moves ∷ []

abbrev pub out_words : Action → List (List ℕ)
out_words Drop = codes "drop" ∷ []
out_words (Out port moves) = decimal port ∷ rewrite_words moves

-- the words after `rule`
abbrev pub rule_words : ℕ → Rule → List (List ℕ)
rule_words id rule =
    decimal id ∷ decimal rule.at ∷ decimal rule.priority ∷ in_word rule.inp ∷ pattern_text rule.pattern ∷ out_words rule.action

abbrev pub spelled : Declaration → List (List ℕ)
spelled (DeclareBox id) = codes "box" ∷ decimal id ∷ []
spelled (DeclarePort id box) = codes "port" ∷ decimal id ∷ decimal box ∷ []
spelled (DeclareLink a b) = codes "link" ∷ decimal a ∷ decimal b ∷ []
spelled (DeclareTerminal id port role) = codes "term" ∷ decimal id ∷ decimal port ∷ role_word role ∷ []
spelled (DeclarePermit terminal pattern) = codes "permit" ∷ decimal terminal ∷ pattern_text pattern ∷ []
spelled (DeclareForbid terminal pattern) = codes "forbid" ∷ decimal terminal ∷ pattern_text pattern ∷ []
spelled (DeclareRule id rule) = codes "rule" ∷ rule_words id rule

abbrev pub permits_of : ℕ × Terminal → List Declaration
permits_of t = map (DeclarePermit t.0) t.1.permits

abbrev pub forbids_of : ℕ × Terminal → List Declaration
forbids_of t = map (DeclareForbid t.0) t.1.forbids

-- a link by its lower port, which stands first
abbrev pub links_of : List (ℕ × ℕ) → List Declaration
links_of links = map (λ l. DeclareLink l.0 l.1) (filter (λ l. nat_lt l.0 l.1) links)

abbrev pub declared_by : Network → List Declaration
declared_by net =
    map DeclareBox net.boxes
    ++ (map (λ p. DeclarePort p.0 p.1) net.ports
    ++ (links_of net.links
    ++ (map (λ t. DeclareTerminal t.0 t.1.port t.1.role) net.terminals
    ++ (flat_map permits_of net.terminals
    ++ (flat_map forbids_of net.terminals
    ++ map (λ r. DeclareRule r.0 r.1) net.rules)))))

abbrev pub head_line : ℕ → List ℕ
head_line width = line (codes "atpg-net" ∷ codes "2" ∷ decimal width ∷ [])

abbrev pub declared_lines : List Declaration → List ℕ
declared_lines declarations = flat_map (λ d. line (spelled d)) declarations

abbrev pub network_text : Network → List ℕ
network_text net = head_line net.width ++ declared_lines (declared_by net)
