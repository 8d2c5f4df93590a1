-- Why an event is refused. The table of its round has so many entries.
--     refusal    the first refusal whose condition holds, other than that the log is full
use Rattle.std.specs.Prelude.{ℕ, ◌==◌, nat_le, Bool, true, false, not, List, [], ◌∷◌, length, Option, Some, None}
use Rattle.std.specs.Option.{option_map}
use Rattle.network_model.specs.Network.{Network}
use Rattle.net_types.specs.Refusals as parts
use Rattle.net_types.specs.declared.fault.NetFault.{NetFault}
use Rattle.net_types.specs.declared.fault.NetFault.TheVariants as faults
use Rattle.net_versions.specs.declared.change.Change.{Change as Changing}
use Rattle.net_versions.specs.Changes.{change_refusal}
use Rattle.net_versions.specs.VersionsValue.{VersionsValue}
use Rattle.desk_core.specs.declared.event.LoggedEvent.{LoggedEvent}
use Rattle.desk_core.specs.declared.event.LoggedEvent.TheVariants.{Change, OpenRound, Pin, Post, Depart, Arrive, Locate, Close, Current}
use Rattle.desk_core.specs.declared.reply.Refusal.{Refusal}
use Rattle.desk_core.specs.declared.reply.Refusal.TheVariants.{NoRound, NoPlan, AlreadyPosted, WrongSnapshot, NoEntry, Moved, AlreadyCounted, NotSent, RoundsFull, Rule}
use Rattle.desk_core.specs.Past.{Past}
use Rattle.desk_core.specs.Versions.{now}
use Rattle.desk_core.specs.Rounds.{most_open, open_rounds, is_open, is_posted, at_opening}
use Rattle.desk_core.specs.Counting.{is_entry, is_caller, sender, counted}

abbrev pub when : Bool → Refusal → Option Refusal
when true refusal = Some refusal
when false refusal = None

abbrev pub first_of : List (Option Refusal) → Option Refusal
first_of [] = None
first_of (None ∷ rest) = first_of rest
first_of (Some refusal ∷ rest) = Some refusal

abbrev pub no_round : Past → ℕ → Option Refusal
no_round past round = when (not (is_open past round)) (NoRound round)

abbrev pub no_plan : Past → ℕ → Option Refusal
no_plan past round = when (not (is_posted past round)) (NoPlan round)

abbrev pub already_posted : Past → ℕ → Option Refusal
already_posted past round = when (is_posted past round) (AlreadyPosted round)

abbrev pub wrong_snapshot : ℕ → Bool → Option Refusal
wrong_snapshot round fits = when (not fits) (WrongSnapshot round)

abbrev pub no_entry : ℕ → ℕ → Option Refusal
no_entry entries entry = when (not (is_entry entries entry)) (NoEntry entry)

abbrev pub moved_between : ℕ → ℕ → Option Refusal
moved_between pinned now = when (not (pinned == now)) (Moved pinned now)

abbrev pub moved : Network → Past → ℕ → Option Refusal
moved opening past round = moved_between (at_opening opening past round).version (now opening past).version

abbrev pub already_counted : Network → ℕ → Past → ℕ → ℕ → Option Refusal
already_counted opening entries past round entry = option_map AlreadyCounted (counted opening entries past round entry)

abbrev pub not_sent : Network → ℕ → Past → ℕ → ℕ → ℕ → Option Refusal
not_sent opening entries past caller round entry = when (not (is_caller (sender opening entries past round entry) caller)) NotSent

abbrev pub rounds_full : Past → Option Refusal
rounds_full past = when (nat_le most_open (length (open_rounds past))) RoundsFull

abbrev pub fault_of : parts.Refusal → NetFault
fault_of parts.Twice = faults.Twice
fault_of parts.Unknown = faults.Unknown
fault_of parts.Limit = faults.Limit
fault_of parts.Width = faults.Width
fault_of parts.PortTaken = faults.PortTaken
fault_of parts.LinkTaken = faults.LinkTaken
fault_of parts.EdgeLinked = faults.EdgeLinked

abbrev pub refused_change : VersionsValue → Changing → Option Refusal
refused_change v change = option_map (λ why. Rule (fault_of why)) (change_refusal v.net change)

abbrev pub refusal : Network → ℕ → Past → ℕ → LoggedEvent → Option Refusal
refusal opening entries past caller (Change change) = refused_change (now opening past) change
refusal opening entries past caller OpenRound = rounds_full past
refusal opening entries past caller (Pin round) = no_round past round
refusal opening entries past caller (Post round fits) =
    first_of (no_round past round ∷ already_posted past round ∷ wrong_snapshot round fits ∷ [])
refusal opening entries past caller (Depart round entry) = first_of (
    no_round past round ∷ no_plan past round ∷ no_entry entries entry ∷ moved opening past round
    ∷ already_counted opening entries past round entry ∷ [])
refusal opening entries past caller (Arrive round entry verdict) = first_of (
    no_round past round ∷ no_plan past round ∷ no_entry entries entry ∷ moved opening past round
    ∷ already_counted opening entries past round entry ∷ not_sent opening entries past caller round entry ∷ [])
refusal opening entries past caller (Locate round) = first_of (no_round past round ∷ no_plan past round ∷ [])
refusal opening entries past caller (Close round) = no_round past round
refusal opening entries past caller Current = None
