-- What a network text says.
--     Head            the version of a text and the width of its network
--     head            what the first line with words gives, or its first fault
--     line            the declarations with that of one more line, or the line's first fault
--     reading         the declarations of all lines, or the first faulty line and its first fault
--     network_of      the network that has exactly the declared parts
--     Spells          the bytes are a text of the network
--     AnswersReading  the network that was read, or the line and the fault
use Rattle.std.specs.Prelude.{◌≡◌, ℕ, ◌+◌, ◌-◌, nat_le, not, ◌&&◌, List, [], ◌∷◌, ◌++◌, Option, Some, None, Result, Ok, Err, codes, if◌then◌else◌}
use Rattle.std.specs.List.{fold}
use Rattle.std.specs.Str.{bytes_eq}
use Rattle.network_model.specs.Limits.{most_bits}
use Rattle.network_model.specs.Network as model
use Rattle.network_model.specs.Building.{empty, with_box, with_port, with_link, with_terminal, with_permit, with_forbid, with_rule}
use Rattle.net_types.specs.Refusals as refusals
use Rattle.net_types.specs.Refusals.{Refusal}
use Rattle.net_types.specs.declared.fault.NetFault.{NetFault}
use Rattle.net_types.specs.declared.fault.NetFault.TheVariants as net_faults
use Rattle.net_text.specs.declared.fault.TextFault.{TextFault}
use Rattle.net_text.specs.declared.fault.TextFault.TheVariants as faults
use Rattle.net_text.specs.declared.fault.ReadNet.{ReadNet}
use Rattle.net_text.specs.declared.fault.ReadNet.TheVariants.{BadNet, NoMemory}
use Rattle.net_text.specs.declared.version.Version.{Version}
use Rattle.net_text.specs.declared.version.Version.TheVariants.{One, Two}
use Rattle.text_words.specs.Words.{lines_of, words_of}
use Rattle.net_text.specs.Declarations.{Declaration, DeclareBox, DeclarePort, DeclareLink, DeclareTerminal, DeclarePermit, DeclareForbid, DeclareRule, Outcome, Good, Bad, numeral, and_then, declaration, refusal}

pub data Reading : Type 0 where
  Declared : (width : ℕ) (declarations : List Declaration) → Reading
  Faulty : (line : ℕ) (fault : TextFault) → Reading

-- the fault of the code that names a refusal
abbrev pub fault_of : Refusal → NetFault
fault_of refusals.Twice = net_faults.Twice
fault_of refusals.Unknown = net_faults.Unknown
fault_of refusals.Limit = net_faults.Limit
fault_of refusals.Width = net_faults.Width
fault_of refusals.PortTaken = net_faults.PortTaken
fault_of refusals.LinkTaken = net_faults.LinkTaken
fault_of refusals.EdgeLinked = net_faults.EdgeLinked

pub record Head : Type 0 where
  pub version : Version
  pub width : ℕ

abbrev pub version_of : List ℕ → Outcome Version
version_of word = if bytes_eq word (codes "1") then Good One else (if bytes_eq word (codes "2") then Good Two else Bad faults.Version)

abbrev pub width_of : ℕ → Outcome ℕ
width_of bits = if nat_le 1 bits && nat_le bits most_bits then Good bits else Bad (faults.Net net_faults.Width)

abbrev pub head : List (List ℕ) → Outcome Head
head (name ∷ version ∷ bits ∷ []) =
    if not (bytes_eq name (codes "atpg-net")) then Bad faults.NoHead
    else and_then (version_of version) (λ version. and_then (numeral bits) (λ bits. and_then (width_of bits) (λ width.
    Good (record { version = version; width = width }))))
head other = Bad faults.NoHead

abbrev pub allowed : {A : Type 0} → A → Option Refusal → Outcome A
allowed a None = Good a
allowed a (Some refusal) = Bad (faults.Net (fault_of refusal))

-- a line without words declares nothing
abbrev pub line : Head → List Declaration → List (List ℕ) → Outcome (List Declaration)
line head before [] = Good before
line head before (first ∷ rest) =
    and_then (declaration head.version first rest) (λ d. allowed (before ++ d ∷ []) (refusal head.width before d))

abbrev pub reading_on : (ℕ → List Declaration → Reading) → ℕ → Outcome (List Declaration) → Reading
reading_on go_on at (Bad fault) = Faulty at fault
reading_on go_on at (Good declarations) = go_on (at + 1) declarations

-- the lines from this one on, numbered from `at`
abbrev pub body : Head → List (List ℕ) → ℕ → List Declaration → Reading
body head [] at before = Declared head.width before
body head (l ∷ ls) at before = reading_on (body head ls) at (line head before (words_of l))

abbrev pub after_head : List (List ℕ) → ℕ → Outcome Head → Reading
after_head ls at (Bad fault) = Faulty at fault
after_head ls at (Good head) = body head ls (at + 1) []

abbrev pub find_head : (ℕ → Reading) → List (List ℕ) → ℕ → List (List ℕ) → Reading
find_head go_on ls at [] = go_on (at + 1)
find_head go_on ls at (first ∷ rest) = after_head ls at (head (first ∷ rest))

-- without any word, the line after the last line feed has no head
abbrev pub from_line : List (List ℕ) → ℕ → Reading
from_line [] at = Faulty (at - 1) faults.NoHead
from_line (l ∷ ls) at = find_head (from_line ls) ls at (words_of l)

abbrev pub reading : List ℕ → Reading
reading text = from_line (lines_of text) 1

abbrev pub declare : model.Network → Declaration → model.Network
declare net (DeclareBox id) = with_box id net
declare net (DeclarePort id box) = with_port id box net
declare net (DeclareLink a b) = with_link a b net
declare net (DeclareTerminal id port role) = with_terminal id port role net
declare net (DeclarePermit terminal pattern) = with_permit terminal pattern net
declare net (DeclareForbid terminal pattern) = with_forbid terminal pattern net
declare net (DeclareRule id rule) = with_rule id rule net

abbrev pub network_of : ℕ → List Declaration → model.Network
network_of width declarations = fold declare (empty width) declarations

pub record Spells (bytes : List ℕ) (net : model.Network) : Type 0 where
  pub width : ℕ
  pub declarations : List Declaration
  pub reads : reading bytes ≡ Declared width declarations
  pub is : net ≡ network_of width declarations

abbrev pub AnswersReading : Result model.Network ReadNet → List ℕ → Type 0
AnswersReading (Ok net) bytes = Spells bytes net
AnswersReading (Err (BadNet at fault)) bytes = reading bytes ≡ Faulty at fault
AnswersReading (Err NoMemory) bytes = Unit {0}
