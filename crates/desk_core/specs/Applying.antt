-- What one call of a desk does.
--     Fits          the plan is of the network at the opening of an open round, and of the desk's hop limit
--     logged_with   an event as it stands in the log
--     IsFit         whether it posts a plan that fits, if it posts one
--     IsPlanOf      the plan of an entry's round, where that is open and has one with the entry
--     IsEntered     an entry for the event is added, and the reply is that of the history
--     Applied       a full log refuses, and any other enters the event
use Rattle.std.specs.Prelude.{◌≡◌, ℕ, ◌↔◌, Bool, true, false, ◌||◌, [], ◌∷◌, ◌++◌, IsTrue, if◌then◌else◌}
use Rattle.std.specs.Arc.{arc_value}
use Rattle.network_model.specs.Network.{Network}
use Rattle.network_model.specs.Plan.{Plan, IsPlan}
use Rattle.rule_cover.specs.PlanValue.{PlanValue}
use Rattle.desk_core.specs.declared.event.Event.{Event}
use Rattle.desk_core.specs.declared.event.Event.TheVariants as events
use Rattle.desk_core.specs.declared.event.LoggedEvent.{LoggedEvent}
use Rattle.desk_core.specs.declared.event.LoggedEvent.TheVariants.{Change, OpenRound, Pin, Post, Depart, Arrive, Locate, Close, Current}
use Rattle.desk_core.specs.declared.event.Logged.{Logged}
use Rattle.desk_core.specs.declared.reply.Refusal.TheVariants.{LogFull}
use Rattle.desk_core.specs.declared.reply.Reply.{Reply}
use Rattle.desk_core.specs.declared.reply.Reply.TheVariants.{Refused}
use Rattle.desk_core.specs.Past.{Past, past_of}
use Rattle.desk_core.specs.Rounds.{is_open, is_posted, at_opening}
use Rattle.desk_core.specs.Legal.{may_lack_memory}
use Rattle.desk_core.specs.Replies.{NoMemory, reply_value, reply_of}
use Rattle.desk_core.specs.DeskValue.{DeskValue, is_full}

pub record Fits (opening : Network) (hops : ℕ) (past : Past) (round : ℕ) (plan : PlanValue) : Type 0 where
  pub open_there : IsTrue (is_open past round)
  pub net_is : plan.net ≡ (at_opening opening past round).net
  pub hops_are : plan.hops ≡ hops

-- an event in the log, and whether it posts a plan that fits
abbrev pub logged_with : Event → Bool → LoggedEvent
logged_with (events.Change change) fits = Change change
logged_with events.OpenRound fits = OpenRound
logged_with (events.Pin round) fits = Pin round
logged_with (events.Post round plan) fits = Post round fits
logged_with (events.Depart round entry) fits = Depart round entry
logged_with (events.Arrive round entry verdict) fits = Arrive round entry verdict
logged_with (events.Locate round) fits = Locate round
logged_with (events.Close round) fits = Close round
logged_with events.Current fits = Current

abbrev pub IsFit : Network → ℕ → Past → Event → Bool → Type 0
IsFit opening hops past (events.Post round plan) fits = IsTrue fits ↔ Fits opening hops past round (arc_value plan)
IsFit opening hops past event fits = Unit {0}

-- the round that an event names, or 0
abbrev pub round_of : LoggedEvent → ℕ
round_of (Change change) = 0
round_of OpenRound = 0
round_of (Pin round) = round
round_of (Post round fits) = round
round_of (Depart round entry) = round
round_of (Arrive round entry verdict) = round
round_of (Locate round) = round
round_of (Close round) = round
round_of Current = 0

-- A Post is one of those that post a plan.
abbrev pub IsPlanOf : Network → ℕ → Past → Logged → Plan → Type 0
IsPlanOf opening hops past entry plan =
    is_open past (round_of entry.event) ≡ true → is_posted (entry ∷ past) (round_of entry.event) ≡ true
    → IsPlan (at_opening opening past (round_of entry.event)).net hops plan

pub record IsEntered (before : DeskValue) (caller : ℕ) (event : Event) (reply : Reply) (after : DeskValue) : Type 0 where
  pub entry : Logged
  pub added : after ≡ record before { log = before.log ++ entry ∷ [] }
  pub by : entry.caller ≡ caller
  pub fits : Bool
  pub logged : entry.event ≡ logged_with event fits
  pub fitting : IsFit before.opening before.hops (past_of before.log) event fits
  pub kept : IsTrue (entry.stored || may_lack_memory entry.event)
  pub plan : Plan
  pub planned : IsPlanOf before.opening before.hops (past_of before.log) entry plan
  pub replied : reply_value reply
      ≡ (if entry.stored then reply_of before.opening plan (past_of before.log) caller entry.event else NoMemory)

pub record Applied (before : DeskValue) (caller : ℕ) (event : Event) (reply : Reply) (after : DeskValue) : Type 0 where
  pub full : IsTrue (is_full before) → (reply ≡ Refused (LogFull before.room)) × (after ≡ before)
  pub entered : is_full before ≡ false → IsEntered before caller event reply after
