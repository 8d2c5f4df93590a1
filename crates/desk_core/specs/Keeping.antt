-- How what a desk keeps stands to the past of its log.
--     IsPosted     what is kept of a round's plan
--     IsRound      what is kept of an open round
--     Mirrors      what is kept of the network and all rounds
--     depart_refusal, arrive_refusal    the refusals of a packet of an open round, from what is kept of it
--     entry_of     the entry for an event that got this reply
--     Stepped      the reply to a caller's event is that of the past, and what is kept then is that of the past with its entry
use Rattle.std.specs.Prelude.{◌≡◌, ℕ, ◌<◌, ◌||◌, not, true, false, List, [], ◌∷◌, length, map, slice_index_or, Option, None, Some, is_some, IsTrue, if◌then◌else◌}
use Rattle.std.specs.Option.{option_map}
use Rattle.network_model.specs.Network.{Network}
use Rattle.network_model.specs.Plan.{Plan, IsPlan}
use Rattle.net_types.specs.declared.fault.NetFault.{NetFault}
use Rattle.net_types.specs.declared.fault.NetFault.TheVariants as faults
use Rattle.suspect_book.specs.declared.verdict.Verdict.{Verdict}
use Rattle.suspect_book.specs.Verdicts.{verdict_at}
use Rattle.desk_core.specs.declared.event.LoggedEvent.{LoggedEvent}
use Rattle.desk_core.specs.declared.event.Logged.{Logged}
use Rattle.desk_core.specs.declared.reply.Refusal.{Refusal}
use Rattle.desk_core.specs.declared.reply.Refusal.TheVariants.{NoPlan, AlreadyCounted, NotSent, Rule}
use Rattle.desk_core.specs.Past.{Past}
use Rattle.desk_core.specs.Versions.{now}
use Rattle.desk_core.specs.Rounds as rounds
use Rattle.desk_core.specs.Counting.{is_entry, is_caller, sender, counted, verdicts}
use Rattle.desk_core.specs.Refusals.{when, first_of, no_entry, moved_between}
use Rattle.desk_core.specs.Replies.{ReplyValue, Refused, NoMemory, is_kept, reply_of}
use Rattle.desk_core.specs.Legal.{may_lack_memory}
use Rattle.desk_core.specs.Applying.{IsPlanOf}
use Rattle.desk_core.specs.RoundsValue.{PostedValue, RoundValue, RoundsValue, sender_at}

pub record IsPosted (opening : Network) (hops : ℕ) (past : Past) (round : ℕ) (p : PostedValue) : Type 0 where
  pub there : rounds.is_posted past round ≡ true
  pub net : p.plan.net ≡ (rounds.at_opening opening past round).net
  pub hops_are : p.plan.hops ≡ hops
  pub is_plan : IsPlan p.plan.net p.plan.hops p.plan.plan
  pub verdicts_are : p.verdicts ≡ verdicts opening (length p.plan.plan.table) past round
  pub room : length p.senders ≡ length p.plan.plan.table
  -- of an entry that has a verdict no departure matters any more
  pub senders_are : (entry : ℕ) → is_entry (length p.plan.plan.table) entry ≡ true → counted opening (length p.plan.plan.table) past round entry ≡ None
      → sender_at p.senders entry ≡ sender opening (length p.plan.plan.table) past round entry

abbrev pub IsPlanned : Network → ℕ → Past → ℕ → Option PostedValue → Type 0
IsPlanned opening hops past round None = rounds.is_posted past round ≡ false
IsPlanned opening hops past round (Some p) = IsPosted opening hops past round p

pub record IsRound (opening : Network) (hops : ℕ) (past : Past) (r : RoundValue) : Type 0 where
  pub pinned_is : r.pinned ≡ rounds.at_opening opening past r.number
  pub planned : IsPlanned opening hops past r.number r.posted

pub record Mirrors (opening : Network) (hops : ℕ) (past : Past) (v : RoundsValue) : Type 0 where
  pub now_is : v.now ≡ now opening past
  pub opened_are : v.opened ≡ length (rounds.openings past)
  pub numbers : map (λ (r : RoundValue). r.number) v.open_rounds ≡ rounds.open_rounds past
  pub each : (i : ℕ) (d : RoundValue) → i < length v.open_rounds → IsRound opening hops past (slice_index_or v.open_rounds i d)

-- how many entries the table of a round has, as far as it has one
abbrev pub entries_of : Option PostedValue → ℕ
entries_of None = 0
entries_of (Some p) = length p.plan.plan.table

abbrev pub verdicts_of : Option PostedValue → List (Option Verdict)
verdicts_of None = []
verdicts_of (Some p) = p.verdicts

abbrev pub senders_of : Option PostedValue → List (Option ℕ)
senders_of None = []
senders_of (Some p) = p.senders

abbrev pub no_posted : RoundValue → Option Refusal
no_posted r = when (not (is_some r.posted)) (NoPlan r.number)

abbrev pub depart_refusal : RoundValue → ℕ → ℕ → Option Refusal
depart_refusal r version entry = first_of (
    no_posted r ∷ no_entry (entries_of r.posted) entry ∷ moved_between r.pinned.version version
    ∷ option_map AlreadyCounted (verdict_at (verdicts_of r.posted) entry) ∷ [])

abbrev pub arrive_refusal : RoundValue → ℕ → ℕ → ℕ → Option Refusal
arrive_refusal r version caller entry = first_of (
    no_posted r ∷ no_entry (entries_of r.posted) entry ∷ moved_between r.pinned.version version
    ∷ option_map AlreadyCounted (verdict_at (verdicts_of r.posted) entry)
    ∷ when (not (is_caller (sender_at (senders_of r.posted) entry) caller)) NotSent ∷ [])

-- of a change that was not made
abbrev pub fault_reply : NetFault → ReplyValue
fault_reply faults.NoMemory = NoMemory
fault_reply fault = Refused (Rule fault)

abbrev pub entry_of : ℕ → LoggedEvent → ReplyValue → Logged
entry_of caller event reply = record { caller = caller; event = event; stored = is_kept reply }

pub record Stepped (opening : Network) (hops : ℕ) (past : Past) (caller : ℕ) (event : LoggedEvent) (reply : ReplyValue) (after : RoundsValue) : Type 0 where
  pub plan : Plan
  pub planned : IsPlanOf opening hops past (entry_of caller event reply) plan
  pub replied : reply ≡ (if is_kept reply then reply_of opening plan past caller event else NoMemory)
  pub kept : IsTrue (is_kept reply || may_lack_memory event)
  pub mirrors : Mirrors opening hops (entry_of caller event reply ∷ past) after
