-- What a session that the program serves comes to, and what a run promises.
--     session_network    what of an input is the network text: what stands before the first line whose only word is `session`
--     lines_of_session   the lines after that line, from line 1 on; none where there is no such line
--     new_desk           a desk just opened over a network, with an empty log
--     AsksAlone          what an event asked by its only caller comes to
--     AreReplies         the text of the replies to these commands and faulty lines, at a new desk
--     WritesAll          all the replies were written
--     WritesFront        so many bytes were written of the replies to the first of what the lines say
--     EndsSession        how a session ends, and what was written of its replies
--     HasSession         an input is the text of a network and a session, which ended so
--     IsServed           good words, and an input that was read to its end and has a session
--     NoNetwork          why an input has no network
--     NoSession          why no session began
--     IsSessionRun       what a run promises of words that begin with `run`
--     IsRun              what a run promises
use Rattle.std.specs.Prelude.{◌≡◌, ◌↔◌, ◌⊎◌, ℕ, ◌+◌, ◌<◌, ◌≤◌, true, false, List, [], codes, Option, Some, None, IfSome, length, take}
use Rattle.byte_edges.specs.Counts.{raised, Rose}
use Rattle.byte_edges.specs.Writing.{Took}
use Rattle.network_model.specs.Network.{Network}
use Rattle.network_model.specs.WellFormed.{IsWellFormed}
use Rattle.net_text.specs.Text.{Faulty, Spells}
use Rattle.net_text.specs.Text as network_text
use Rattle.text_parts.specs.Parts.{before_line, lines_after}
use Rattle.desk_core.specs.declared.event.Event.{Event}
use Rattle.desk_core.specs.declared.reply.Reply.{Reply}
use Rattle.desk_core.specs.DeskValue.{DeskValue}
use Rattle.desk_core.specs.Applying.{Applied}
use Rattle.session_lines.specs.Readings.{Stop, Quitting, Stopping, TooLong, Said, Reading, reading}
use Rattle.session_lines.specs.Serving.{Serves}
use Rattle.session_lines.specs.Sessions.{IsFront}
use Rattle.atpg.specs.CommandLine.{begins_with_run, IsSessionAsked, IsBadAt}
use Rattle.program_edges.specs.Input.{ReadWhole}
use Rattle.atpg.specs.Run.{IsBatch}
use Rattle.atpg.specs.declared.limits.SessionLimits.{SessionLimits}
use Rattle.atpg.specs.declared.status.Status.{Status}
use Rattle.atpg.specs.declared.status.Status.TheVariants as statuses
use Rattle.atpg.specs.declared.status.Status.TheVariants.{Done, BadWords, ReadFault, WriteFault, BadNet, NoSuchRule, TableFull, LongLine, BadPolicy, NoMemory}

abbrev pub session_network : List ℕ → List ℕ
session_network bytes = before_line (codes "session") bytes

abbrev pub lines_of_session : List ℕ → List (List ℕ)
lines_of_session bytes = lines_after (codes "session") bytes

abbrev pub new_desk : Network → SessionLimits → DeskValue
new_desk net limits = record { opening = net; hops = limits.hops; room = limits.log; log = [] }

-- the caller is number 1
abbrev pub AsksAlone : DeskValue → Event → Reply → DeskValue → Type 0
AsksAlone before event reply after = Applied before 1 event reply after

pub record AreReplies (net : Network) (limits : SessionLimits) (said : List Said) (text : List ℕ) : Type 0 where
  -- the desk after them
  pub after : DeskValue
  pub serves : Serves AsksAlone limits.entries limits.hops said (new_desk net limits) after text

pub record WritesAll (net : Network) (limits : SessionLimits) (lines : Reading) (had has : Option (List ℕ)) : Type 0 where
  pub text : List ℕ
  pub replies : AreReplies net limits lines.said text
  pub took : Took had has text

pub record WritesFront (net : Network) (limits : SessionLimits) (lines : Reading) (had has : Option (List ℕ)) (so : List ℕ → ℕ → Type 0) : Type 0 where
  pub said : List Said
  pub front : IsFront said lines.said
  pub text : List ℕ
  pub replies : AreReplies net limits said text
  pub count : ℕ
  pub so_many : so text count
  pub took : Took had has (take count text)

-- no line that was read is too long: the lines end, or one of them ends the session
abbrev pub EndsWell : Option Stop → Type 0
EndsWell None = Unit {0}
EndsWell (Some Quitting) = Unit {0}
EndsWell (Some Stopping) = Unit {0}
EndsWell (Some (TooLong line)) = ⊥

-- of what a sink had taken before, and has after; `written` is the count, which stops at 2^64 - 1
abbrev pub EndsSession : Network → SessionLimits → Reading → Option (List ℕ) → Option (List ℕ) → Status → Type 0
EndsSession net limits lines had has Done = EndsWell lines.stop × WritesAll net limits lines had has
EndsSession net limits lines had has (LongLine line) = (lines.stop ≡ Some (TooLong line)) × WritesAll net limits lines had has
EndsSession net limits lines had has (WriteFault written) = WritesFront net limits lines had has (λ text count. (count < length text) × (written ≡ raised 0 count))
EndsSession net limits lines had has NoMemory = WritesFront net limits lines had has (λ text count. count ≤ length text)
EndsSession net limits lines had has (BadWords at) = ⊥
EndsSession net limits lines had has ReadFault = ⊥
EndsSession net limits lines had has statuses.TooLong = ⊥
EndsSession net limits lines had has (BadNet line fault) = ⊥
EndsSession net limits lines had has (NoSuchRule id) = ⊥
EndsSession net limits lines had has (TableFull limit) = ⊥
EndsSession net limits lines had has (BadPolicy line fault) = ⊥

-- The parts of the network fit together, and its headers have 1 to 128 bits.
pub record HasSession (limits : SessionLimits) (bytes : List ℕ) (had has : Option (List ℕ)) (status : Status) : Type 0 where
  pub net : Network
  pub spells : Spells (session_network bytes) net
  pub fits : IsWellFormed net
  pub ended : EndsSession net limits (reading 1 (lines_of_session bytes)) had has status

pub record IsServed {S : Type 0} (words : List (List ℕ)) (left : S → Option (List ℕ)) (given ends : S → ℕ) (before after : S) (had has : Option (List ℕ)) (status : Status) : Type 0 where
  pub limits : SessionLimits
  pub asked : IsSessionAsked words limits
  pub bytes : List ℕ
  pub whole : ReadWhole left given ends before after bytes
  pub session : HasSession limits bytes had has status

-- Where the source doesn't tell what is left, too many bytes were taken.
abbrev pub NoNetwork : {S : Type 0} → (S → Option (List ℕ)) → (S → ℕ) → (S → ℕ) → (S → ℕ) → S → S → Status → Type 0
NoNetwork left given ends faults before after ReadFault = Rose (faults before) (faults after)
NoNetwork left given ends faults before after statuses.TooLong = IfSome (left before) (λ all. 67108864 < length all) × (given after ≡ raised (given before) (67108864 + 1))
NoNetwork left given ends faults before after (BadNet line fault) =
    (bytes : List ℕ) × ReadWhole left given ends before after bytes × (network_text.reading (session_network bytes) ≡ Faulty line fault)
NoNetwork left given ends faults before after NoMemory = Unit {0}
NoNetwork left given ends faults before after Done = ⊥
NoNetwork left given ends faults before after (BadWords at) = ⊥
NoNetwork left given ends faults before after (WriteFault written) = ⊥
NoNetwork left given ends faults before after (LongLine line) = ⊥
NoNetwork left given ends faults before after (NoSuchRule id) = ⊥
NoNetwork left given ends faults before after (TableFull limit) = ⊥
NoNetwork left given ends faults before after (BadPolicy line fault) = ⊥

pub record IsRefusedNetwork {S : Type 0} (words : List (List ℕ)) (left : S → Option (List ℕ)) (given ends faults : S → ℕ) (before after : S) (status : Status) : Type 0 where
  pub limits : SessionLimits
  pub asked : IsSessionAsked words limits
  pub why : NoNetwork left given ends faults before after status

abbrev pub NoSession : {S : Type 0} → List (List ℕ) → (S → Option (List ℕ)) → (S → ℕ) → (S → ℕ) → (S → ℕ) → S → S → Status → Type 0
NoSession words left given ends faults before after (BadWords at) = IsBadAt words at × (after ≡ before)
NoSession words left given ends faults before after status = IsRefusedNetwork words left given ends faults before after status

pub record IsSessionRun {S K : Type 0} (words : List (List ℕ)) (left : S → Option (List ℕ)) (given ends faults : S → ℕ) (taken : K → Option (List ℕ)) (sink_faults : K → ℕ) (source source_after : S) (sink sink_after : K) (status : Status) : Type 0 where
  pub bad_words : (at : ℕ) → (status ≡ BadWords at) ↔ IsBadAt words at
  -- nothing was written where no session began
  pub so : (NoSession words left given ends faults source source_after status × (sink_after ≡ sink))
      ⊎ IsServed words left given ends source source_after (taken sink) (taken sink_after) status
  pub write_fault : (written : ℕ) → status ≡ WriteFault written → Rose (sink_faults sink) (sink_faults sink_after)

-- What a run promises of its words, of a source and a sink before and after it, and of its status.
pub record IsRun {S K : Type 0} (words : List (List ℕ)) (left : S → Option (List ℕ)) (given ends faults : S → ℕ) (taken : K → Option (List ℕ)) (sink_faults : K → ℕ) (source source_after : S) (sink sink_after : K) (status : Status) : Type 0 where
  pub session : begins_with_run words ≡ true → IsSessionRun words left given ends faults taken sink_faults source source_after sink sink_after status
  pub batch : begins_with_run words ≡ false → IsBatch words left given ends faults taken sink_faults source source_after sink sink_after status
