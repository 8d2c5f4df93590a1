-- What a batch reads, answers and writes: a run of any command but `run`.
--     IsOutput        the text of the plan of a network, whose table is within a limit
--     PlanRefused     why a network has no plan here
--     IsTried         the text of a trial of a network
--     TrialRefused    why there is no trial of a network here
--     IsUpgraded      the printed text of a network
--     network_bytes   what of an input is the network text
--     IsWanted        the text that a command asks for
--     InputRefused    why an input has no plan text
--     HasText         what was read of the source has this plan text
--     IsSummary       the line on the plan of a generated network
--     HasAnswer       the text that the words ask for, of what was read of the source; where nothing is to be read it stays
--     IsRefused       why there is no such text
--     Writes          good words, and what was taken of the text that they ask for
--     IsBatch         what a batch promises
use Rattle.std.specs.Prelude.{◌≡◌, ◌↔◌, ◌⊎◌, ℕ, ◌+◌, ◌<◌, ◌≤◌, List, [], ◌∷◌, ◌++◌, codes, Option, None, Some, IfSome, IsTrue, All, Contains, length, take}
use Rattle.byte_edges.specs.Counts.{raised, Rose}
use Rattle.byte_edges.specs.Writing.{Took}
use Rattle.network_model.specs.Network.{Network}
use Rattle.network_model.specs.Walk.{Delivered}
use Rattle.network_model.specs.Classes.{permits, walk_from}
use Rattle.network_model.specs.Table.{Entry}
use Rattle.network_model.specs.Cover.{IsExercised, rules_of}
use Rattle.network_model.specs.Plan as plans
use Rattle.network_model.specs.Plan.{IsPlan}
use Rattle.network_model.specs.Prefixes.{IsPrefixNumber}
use Rattle.network_model.specs.WellFormed.{IsWellFormed}
use Rattle.net_text.specs.Printing.{network_text}
use Rattle.net_text.specs.Text.{reading, Faulty, Spells}
use Rattle.network_model.specs.Table.{IsOver}
use Rattle.plan_text.specs.PlanText.{plan_text}
use Rattle.fault_model.specs.Findings.{suspects, guilty}
use Rattle.fault_model.specs.Follow.{follow}
use Rattle.trial_run.specs.Trial.{first_unknown}
use Rattle.trial_run.specs.TrialText.{trial_lines}
use Rattle.text_lines.specs.Lines.{number_line}
use Rattle.policy_text.specs.Lines as policies
use Rattle.policy_text.specs.Lines.{network_part, policy_lines, policies_from}
use Rattle.policy_text.specs.Answers.{AreAnswers}
use Rattle.net_grow.specs.Generated.{grown}
use Rattle.program_edges.specs.Input.{ReadWhole}
use Rattle.atpg.specs.CommandLine.{IsAsked, IsBadAt}
use Rattle.atpg.specs.declared.words.Options.{Options}
use Rattle.atpg.specs.declared.faults.Trial as listed
use Rattle.atpg.specs.declared.words.Command.{Command}
use Rattle.atpg.specs.declared.words.Command.TheVariants.{Plan, Trial, Upgrade, Check}
use Rattle.atpg.specs.declared.words.Growth.{Growth}
use Rattle.atpg.specs.declared.words.Request.{Request}
use Rattle.atpg.specs.declared.words.Request.TheVariants.{Read, Grow}
use Rattle.atpg.specs.declared.status.Status.{Status}
use Rattle.atpg.specs.declared.status.Status.TheVariants.{Done, BadWords, ReadFault, WriteFault, TooLong, BadNet, NoSuchRule, TableFull, LongLine, BadPolicy, NoMemory}

-- The text is that of the plan. Each entry's packet may be sent and meets the entry's rules, and each rule that some
-- permitted header meets before it is delivered is on a probe.
pub record IsOutput (net : Network) (options : Options) (text : List ℕ) : Type 0 where
  pub plan : plans.Plan
  pub planned : IsPlan net options.hops plan
  pub within : length plan.table ≤ options.entries
  pub printed : text ≡ plan_text net options.hops plan
  pub sent : All (λ (e : Entry). IsTrue (permits net e.from e.least)) plan.table
  pub travels : All (λ (e : Entry). walk_from net options.hops e.from e.least ≡ record { rules = e.rules; end = Delivered e.to e.arrives }) plan.table
  pub tried : (rule : ℕ) → IsExercised net options.hops rule → Contains (rules_of plan.table plan.probes) rule

abbrev pub PlanRefused : Network → Options → Status → Type 0
PlanRefused net options (TableFull limit) = (limit ≡ options.entries) × IsOver net options.hops limit
PlanRefused net options NoMemory = Unit {0}
PlanRefused net options Done = ⊥
PlanRefused net options (BadWords at) = ⊥
PlanRefused net options ReadFault = ⊥
PlanRefused net options (WriteFault written) = ⊥
PlanRefused net options TooLong = ⊥
PlanRefused net options (BadNet line fault) = ⊥
PlanRefused net options (LongLine line) = ⊥
PlanRefused net options (BadPolicy line fault) = ⊥
PlanRefused net options (NoSuchRule id) = ⊥

-- The text is that of the plan, and then what following it comes to in the network's field, in which the listed rules lose all
-- their packets. Each of them that can be exercised is a suspect, and each guilty rule is one of them.
pub record IsTried (net : Network) (trial : listed.Trial) (text : List ℕ) : Type 0 where
  pub known : first_unknown net trial.faults ≡ None
  pub plan_part : List ℕ
  pub output : IsOutput net trial.options plan_part
  pub printed : text ≡ plan_part ++ trial_lines (follow net trial.options.hops output.plan trial.faults)
      (suspects output.plan.table (follow net trial.options.hops output.plan trial.faults)) (guilty output.plan.table (follow net trial.options.hops output.plan trial.faults))
  pub suspected : (rule : ℕ) → IsExercised net trial.options.hops rule → Contains trial.faults rule → Contains (suspects output.plan.table (follow net trial.options.hops output.plan trial.faults)) rule
  pub guilty_listed : (rule : ℕ) → Contains (guilty output.plan.table (follow net trial.options.hops output.plan trial.faults)) rule → Contains trial.faults rule

-- The first listed rule that the network doesn't have comes before the table.
abbrev pub TrialRefused : Network → listed.Trial → Status → Type 0
TrialRefused net trial (NoSuchRule id) = first_unknown net trial.faults ≡ Some id
TrialRefused net trial (TableFull limit) = (limit ≡ trial.options.entries) × IsOver net trial.options.hops limit × (first_unknown net trial.faults ≡ None)
TrialRefused net trial NoMemory = Unit {0}
TrialRefused net trial Done = ⊥
TrialRefused net trial (BadWords at) = ⊥
TrialRefused net trial ReadFault = ⊥
TrialRefused net trial (WriteFault written) = ⊥
TrialRefused net trial TooLong = ⊥
TrialRefused net trial (BadNet line fault) = ⊥
TrialRefused net trial (LongLine line) = ⊥
TrialRefused net trial (BadPolicy line fault) = ⊥

-- the text of a network, as it is printed, which is a text of that network
pub record IsUpgraded (net : Network) (text : List ℕ) : Type 0 where
  pub printed : text ≡ network_text net
  pub spells : Spells text net

-- to check policies, the network text ends before them
abbrev pub network_bytes : Command → List ℕ → List ℕ
network_bytes (Plan options) bytes = bytes
network_bytes (Trial trial) bytes = bytes
network_bytes Upgrade bytes = bytes
network_bytes (Check hops) bytes = network_part bytes

-- the text that a command asks for, of a network and the whole input
abbrev pub IsWanted : Network → Command → List ℕ → List ℕ → Type 0
IsWanted net (Plan options) bytes text = IsOutput net options text
IsWanted net (Trial trial) bytes text = IsTried net trial text
IsWanted net Upgrade bytes text = IsUpgraded net text
IsWanted net (Check hops) bytes text = AreAnswers net hops (policy_lines bytes) text

-- Want of memory alone keeps a network from being printed.
abbrev pub UpgradeRefused : Status → Type 0
UpgradeRefused NoMemory = Unit {0}
UpgradeRefused Done = ⊥
UpgradeRefused (BadWords at) = ⊥
UpgradeRefused ReadFault = ⊥
UpgradeRefused (WriteFault written) = ⊥
UpgradeRefused TooLong = ⊥
UpgradeRefused (BadNet line fault) = ⊥
UpgradeRefused (NoSuchRule id) = ⊥
UpgradeRefused (LongLine line) = ⊥
UpgradeRefused (BadPolicy line fault) = ⊥
UpgradeRefused (TableFull limit) = ⊥

-- The first line that is no policy of the network, and its fault.
abbrev pub CheckRefused : Network → List ℕ → Status → Type 0
CheckRefused net bytes (BadPolicy line fault) = policies_from net (policy_lines bytes) 1 ≡ policies.Faulty line fault
CheckRefused net bytes NoMemory = Unit {0}
CheckRefused net bytes Done = ⊥
CheckRefused net bytes (BadWords at) = ⊥
CheckRefused net bytes ReadFault = ⊥
CheckRefused net bytes (WriteFault written) = ⊥
CheckRefused net bytes TooLong = ⊥
CheckRefused net bytes (BadNet line fault) = ⊥
CheckRefused net bytes (NoSuchRule id) = ⊥
CheckRefused net bytes (TableFull limit) = ⊥
CheckRefused net bytes (LongLine line) = ⊥

-- why a network has no such text
abbrev pub NetRefused : Network → Command → List ℕ → Status → Type 0
NetRefused net (Plan options) bytes status = PlanRefused net options status
NetRefused net (Trial trial) bytes status = TrialRefused net trial status
NetRefused net Upgrade bytes status = UpgradeRefused status
NetRefused net (Check hops) bytes status = CheckRefused net bytes status

-- the bytes spell a network that has no such text
pub record HasNoText (bytes : List ℕ) (command : Command) (status : Status) : Type 0 where
  pub net : Network
  pub spells : Spells (network_bytes command bytes) net
  pub why : NetRefused net command bytes status

-- why bytes that were read whole have no such text
abbrev pub TextRefused : List ℕ → Command → Status → Type 0
TextRefused bytes command (BadNet line fault) = reading (network_bytes command bytes) ≡ Faulty line fault
TextRefused bytes command (NoSuchRule id) = HasNoText bytes command (NoSuchRule id)
TextRefused bytes command (TableFull limit) = HasNoText bytes command (TableFull limit)
TextRefused bytes command (BadPolicy line fault) = HasNoText bytes command (BadPolicy line fault)
TextRefused bytes command NoMemory = Unit {0}
TextRefused bytes command Done = ⊥
TextRefused bytes command (BadWords at) = ⊥
TextRefused bytes command ReadFault = ⊥
TextRefused bytes command (WriteFault written) = ⊥
TextRefused bytes command TooLong = ⊥
TextRefused bytes command (LongLine line) = ⊥

-- Why an input has no such text. Where the source doesn't tell what is left, too many bytes were taken.
abbrev pub InputRefused : {S : Type 0} → (S → Option (List ℕ)) → (S → ℕ) → (S → ℕ) → (S → ℕ) → S → S → Command → Status → Type 0
InputRefused left given ends faults before after command ReadFault = Rose (faults before) (faults after)
InputRefused left given ends faults before after command TooLong = IfSome (left before) (λ all. 67108864 < length all) × (given after ≡ raised (given before) (67108864 + 1))
InputRefused left given ends faults before after command (BadNet line fault) = (bytes : List ℕ) × ReadWhole left given ends before after bytes × (reading (network_bytes command bytes) ≡ Faulty line fault)
InputRefused left given ends faults before after command (NoSuchRule id) = (bytes : List ℕ) × ReadWhole left given ends before after bytes × HasNoText bytes command (NoSuchRule id)
InputRefused left given ends faults before after command (TableFull limit) = (bytes : List ℕ) × ReadWhole left given ends before after bytes × HasNoText bytes command (TableFull limit)
InputRefused left given ends faults before after command (BadPolicy line fault) = (bytes : List ℕ) × ReadWhole left given ends before after bytes × HasNoText bytes command (BadPolicy line fault)
InputRefused left given ends faults before after command NoMemory = Unit {0}
InputRefused left given ends faults before after command Done = ⊥
InputRefused left given ends faults before after command (BadWords at) = ⊥
InputRefused left given ends faults before after command (WriteFault written) = ⊥
InputRefused left given ends faults before after command (LongLine line) = ⊥

-- An input that has the text of a command. The parts of the network fit together, and its headers have 1 to 128 bits.
pub record HasText {S : Type 0} (left : S → Option (List ℕ)) (given ends : S → ℕ) (before after : S) (command : Command) (text : List ℕ) : Type 0 where
  pub bytes : List ℕ
  pub net : Network
  pub whole : ReadWhole left given ends before after bytes
  pub spells : Spells (network_bytes command bytes) net
  pub fits : IsWellFormed net
  pub output : IsWanted net command bytes text

-- The network of the seed in numbers: its boxes and rules, the entries, probes, reserved entries and idle rules of its plan,
-- and how many lists of rules the walks of permitted headers begin with.
abbrev pub summary_line : ℕ → Network → plans.Plan → ℕ → List ℕ
summary_line seed net plan classes = number_line (codes "grown") (
    seed ∷ length net.boxes ∷ length net.rules ∷ length plan.table ∷ length plan.probes ∷ length (plans.reserved plan)
    ∷ length (plans.idle net plan) ∷ classes ∷ [])

pub record IsSummary (growth : Growth) (text : List ℕ) : Type 0 where
  pub plan : plans.Plan
  pub classes : ℕ
  pub planned : IsPlan (grown growth.seed) growth.options.hops plan
  pub within : length plan.table ≤ growth.options.entries
  pub counted : IsPrefixNumber (grown growth.seed) growth.options.hops (λ start rules. Unit {0}) classes
  pub printed : text ≡ summary_line growth.seed (grown growth.seed) plan classes

-- the text that the words ask for; to grow a network nothing is read
abbrev pub HasAnswer : {S : Type 0} → (S → Option (List ℕ)) → (S → ℕ) → (S → ℕ) → S → S → Request → List ℕ → Type 0
HasAnswer left given ends before after (Read command) text = HasText left given ends before after command text
HasAnswer left given ends before after (Grow growth) text = (after ≡ before) × IsSummary growth text

abbrev pub IsRefused : {S : Type 0} → (S → Option (List ℕ)) → (S → ℕ) → (S → ℕ) → (S → ℕ) → S → S → Request → Status → Type 0
IsRefused left given ends faults before after (Read command) status = InputRefused left given ends faults before after command status
IsRefused left given ends faults before after (Grow growth) status = (after ≡ before) × PlanRefused (grown growth.seed) growth.options status

-- the words are good, there is the text that they ask for, and so much of it was taken
pub record Writes {S : Type 0} (words : List (List ℕ)) (left : S → Option (List ℕ)) (given ends : S → ℕ) (before after : S) (how : List ℕ → Type 0) : Type 0 where
  pub request : Request
  pub asked : IsAsked words request
  pub text : List ℕ
  pub has_text : HasAnswer left given ends before after request text
  pub took : how text

-- a refusal of the input, before anything is written
abbrev pub RefusesInput : Status → Type 0
RefusesInput ReadFault = Unit {0}
RefusesInput TooLong = Unit {0}
RefusesInput (BadNet line fault) = Unit {0}
RefusesInput (NoSuchRule id) = Unit {0}
RefusesInput (TableFull limit) = Unit {0}
RefusesInput (BadPolicy line fault) = Unit {0}
RefusesInput (LongLine line) = Unit {0}
RefusesInput Done = ⊥
RefusesInput (BadWords at) = ⊥
RefusesInput (WriteFault written) = ⊥
RefusesInput NoMemory = ⊥

-- an answer of the writing
abbrev pub IsWriting : Status → Type 0
IsWriting Done = Unit {0}
IsWriting (WriteFault written) = Unit {0}
IsWriting NoMemory = Unit {0}
IsWriting ReadFault = ⊥
IsWriting TooLong = ⊥
IsWriting (BadNet line fault) = ⊥
IsWriting (NoSuchRule id) = ⊥
IsWriting (TableFull limit) = ⊥
IsWriting (BadPolicy line fault) = ⊥
IsWriting (LongLine line) = ⊥
IsWriting (BadWords at) = ⊥

-- What a batch promises of its words, of a source and a sink before and after it, and of its status.
pub record IsBatch {S K : Type 0} (words : List (List ℕ)) (left : S → Option (List ℕ)) (given ends faults : S → ℕ) (taken : K → Option (List ℕ)) (sink_faults : K → ℕ) (source source_after : S) (sink sink_after : K) (status : Status) : Type 0 where
  pub bad_words : (at : ℕ) → (status ≡ BadWords at) ↔ IsBadAt words at
  pub untouched : (at : ℕ) → status ≡ BadWords at → (source_after ≡ source) × (sink_after ≡ sink)
  -- to grow a network nothing is read
  pub reads_nothing : (growth : Growth) → IsAsked words (Grow growth) → source_after ≡ source
  -- a refusal of the input, or of the table, comes by its cause, and nothing was written; no line is too long
  pub refused : RefusesInput status → (request : Request) × IsAsked words request × IsRefused left given ends faults source source_after request status × (sink_after ≡ sink)
  -- the sink failed, and exactly the first `written` bytes of the text were taken
  pub write_fault : (written : ℕ) → status ≡ WriteFault written → Rose (sink_faults sink) (sink_faults sink_after)
      × Writes words left given ends source source_after (λ text. (written < length text) × Took (taken sink) (taken sink_after) (take written text))
  -- nothing was taken, or the beginning of the text
  pub no_memory : status ≡ NoMemory → (taken sink_after ≡ taken sink)
      ⊎ Writes words left given ends source source_after (λ text. (n : ℕ) × (n < length text) × Took (taken sink) (taken sink_after) (take n text))
  -- the input, where one is read, was read to its end, and exactly the text that the words ask for was taken
  pub done : status ≡ Done → Writes words left given ends source source_after (λ text. Took (taken sink) (taken sink_after) text)
