-- Replies.
--     ReplyValue     a reply with the network inside, in place of what holds it
--     reply_value    of a reply
--     is_kept        there was memory
--     reply_of       the reply to a caller's event after a past, where the log is not full and there is memory. The plan is
--                    the one of the event's round.
use Rattle.std.specs.Prelude.{ℕ, ◌+◌, Bool, true, false, [], length, Option, Some, None, if◌then◌else◌}
use Rattle.std.specs.Arc.{arc_value}
use Rattle.network_model.specs.Network.{Network}
use Rattle.network_model.specs.Plan.{Plan}
use Rattle.fault_model.specs.Findings.{Findings, findings}
use Rattle.net_versions.specs.VersionsValue.{VersionsValue}
use Rattle.suspect_book.specs.declared.verdict.Verdict.{Verdict}
use Rattle.suspect_book.specs.Reports.{findings_of}
use Rattle.desk_core.specs.declared.event.LoggedEvent.{LoggedEvent}
use Rattle.desk_core.specs.declared.event.LoggedEvent.TheVariants.{Change, OpenRound, Pin, Post, Depart, Arrive, Locate, Close, Current}
use Rattle.desk_core.specs.declared.reply.Refusal.{Refusal}
use Rattle.desk_core.specs.declared.reply.Reply.{Reply}
use Rattle.desk_core.specs.declared.reply.Reply.TheVariants as replies
use Rattle.desk_core.specs.Past.{Past}
use Rattle.desk_core.specs.Versions.{now, changed_by}
use Rattle.desk_core.specs.Rounds.{openings, at_opening, is_posted}
use Rattle.desk_core.specs.Counting.{outcomes}
use Rattle.desk_core.specs.Refusals.{refusal}

pub data ReplyValue : Type 0 where
  Changed : (version : ℕ) → ReplyValue
  Opened : (round version : ℕ) → ReplyValue
  Pinned : (version : ℕ) (net : Network) → ReplyValue
  Posted : (entries : ℕ) → ReplyValue
  Departed : ReplyValue
  Counted : (verdict : Verdict) → ReplyValue
  Located : (found : Findings) → ReplyValue
  Closed : (found : Findings) → ReplyValue
  Now : (version : ℕ) → ReplyValue
  Refused : (refusal : Refusal) → ReplyValue
  NoMemory : ReplyValue
  Unkept : ReplyValue

abbrev pub reply_value : Reply → ReplyValue
reply_value (replies.Changed version) = Changed version
reply_value (replies.Opened round version) = Opened round version
reply_value (replies.Pinned version net) = Pinned version (arc_value net)
reply_value (replies.Posted entries) = Posted entries
reply_value replies.Departed = Departed
reply_value (replies.Counted verdict) = Counted verdict
reply_value (replies.Located report) = Located (findings_of report)
reply_value (replies.Closed report) = Closed (findings_of report)
reply_value (replies.Now version) = Now version
reply_value (replies.Refused refusal) = Refused refusal
reply_value replies.NoMemory = NoMemory
reply_value replies.Unkept = Unkept

abbrev pub is_kept : ReplyValue → Bool
is_kept NoMemory = false
is_kept _ = true

abbrev pub nothing_found : Findings
nothing_found = record { suspects = []; guilty = []; odd = None; next = None }

abbrev pub found : Network → Plan → Past → ℕ → Findings
found opening plan past round = findings plan (outcomes opening (length plan.table) past round)

abbrev pub pinned : VersionsValue → ReplyValue
pinned v = Pinned v.version v.net

-- the reply to an event that is not refused
abbrev pub granted : Network → Plan → Past → LoggedEvent → ReplyValue
granted opening plan past (Change change) = Changed (changed_by (now opening past) (Some change)).version
granted opening plan past OpenRound = Opened (length (openings past) + 1) (now opening past).version
granted opening plan past (Pin round) = pinned (at_opening opening past round)
granted opening plan past (Post round fits) = Posted (length plan.table)
granted opening plan past (Depart round entry) = Departed
granted opening plan past (Arrive round entry verdict) = Counted verdict
granted opening plan past (Locate round) = Located (found opening plan past round)
granted opening plan past (Close round) = Closed (if is_posted past round then found opening plan past round else nothing_found)
granted opening plan past Current = Now (now opening past).version

abbrev pub unless_refused : Option Refusal → ReplyValue → ReplyValue
unless_refused None reply = reply
unless_refused (Some refusal) reply = Refused refusal

abbrev pub reply_of : Network → Plan → Past → ℕ → LoggedEvent → ReplyValue
reply_of opening plan past caller event =
    unless_refused (refusal opening (length plan.table) past caller event) (granted opening plan past event)
