-- The same reading, over the network so far in place of the declarations so far.
--     due            why the network doesn't take what is declared
--     step           the network with what one more line of a text of that version declares, or the line's first fault
--     advance        the same before the head too, where there is no network yet
--     built_from     the network of all lines, or the first faulty line and its first fault
use Rattle.std.specs.Prelude.{ℕ, ◌+◌, ◌-◌, List, [], ◌∷◌, Option, None, Some}
use Rattle.network_model.specs.Network.{Network}
use Rattle.network_model.specs.Building.{empty}
use Rattle.net_types.specs.Refusals.{Refusal, box_refusal, port_refusal, link_refusal, terminal_refusal, permit_refusal, forbid_refusal, rule_refusal}
use Rattle.net_text.specs.declared.fault.TextFault.{TextFault}
use Rattle.net_text.specs.declared.fault.TextFault.TheVariants as faults
use Rattle.net_text.specs.declared.version.Version.{Version}
use Rattle.net_text.specs.declared.reader.Begun.{Begun}
use Rattle.text_words.specs.Words.{words_of}
use Rattle.net_text.specs.Declarations.{Declaration, DeclareBox, DeclarePort, DeclareLink, DeclareTerminal, DeclarePermit, DeclareForbid, DeclareRule, Outcome, Good, Bad, and_then, declaration}
use Rattle.net_text.specs.Text.{Head, head, allowed, declare}

pub data Built : Type 0 where
  Whole : (network : Network) → Built
  Broken : (line : ℕ) (fault : TextFault) → Built

abbrev pub due : Network → Declaration → Option Refusal
due net (DeclareBox id) = box_refusal net id
due net (DeclarePort id box) = port_refusal net id box
due net (DeclareLink a b) = link_refusal net a b
due net (DeclareTerminal id port role) = terminal_refusal net id port
due net (DeclarePermit terminal pattern) = permit_refusal net terminal pattern
due net (DeclareForbid terminal pattern) = forbid_refusal net terminal pattern
due net (DeclareRule id rule) = rule_refusal net id rule

abbrev pub taken : Network → Declaration → Outcome Network
taken net d = allowed (declare net d) (due net d)

abbrev pub step : Version → Network → List (List ℕ) → Outcome Network
step version net [] = Good net
step version net (first ∷ rest) = and_then (declaration version first rest) (taken net)

abbrev pub begun : Head → Begun
begun head = record { version = head.version; builder = empty head.width }

-- the text goes on with that network
abbrev pub with_network : Begun → Network → Option Begun
with_network text net = Some (record text { builder = net })

abbrev pub advance : Option Begun → List (List ℕ) → Outcome (Option Begun)
advance (Some text) words = and_then (step text.version text.builder words) (λ net. Good (with_network text net))
advance None [] = Good None
advance None (first ∷ rest) = and_then (head (first ∷ rest)) (λ head. Good (Some (begun head)))

abbrev pub ending : ℕ → Option Begun → Built
ending at None = Broken (at - 1) faults.NoHead
ending at (Some text) = Whole text.builder

abbrev pub built_on : (ℕ → Option Begun → Built) → ℕ → Outcome (Option Begun) → Built
built_on go_on at (Bad fault) = Broken at fault
built_on go_on at (Good text) = go_on (at + 1) text

-- the lines from this one on, numbered from `at`
abbrev pub built_from : List (List ℕ) → ℕ → Option Begun → Built
built_from [] at text = ending at text
built_from (l ∷ ls) at text = built_on (built_from ls) at (advance text (words_of l))
