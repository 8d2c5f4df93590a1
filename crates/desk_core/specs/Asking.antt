-- What a desk of any kind is asked.
--     FitsEvent    a reply of the kind that the event has, a refusal that it may have, or that memory or the keeping failed
--     Item         an event, its reply, and the desk after it
--     Leads        each item is asked of the desk before it, so that they lead from one desk to another
use Rattle.std.specs.Prelude.{◌≡◌, List, [], ◌∷◌, Contains}
use Rattle.net_types.specs.declared.fault.NetFault.TheVariants as faults
use Rattle.desk_core.specs.declared.event.Event.{Event}
use Rattle.desk_core.specs.declared.event.Event.TheVariants.{Change, OpenRound, Pin, Post, Depart, Arrive, Locate, Close, Current}
use Rattle.desk_core.specs.declared.reply.Refusal.{Refusal}
use Rattle.desk_core.specs.declared.reply.Refusal.TheVariants as refusals
use Rattle.desk_core.specs.declared.reply.Reply.{Reply}
use Rattle.desk_core.specs.declared.reply.Reply.TheVariants as replies

-- what an event asks for
pub data Kind : Type 0 where
  Changing : Kind
  Opening : Kind
  Pinning : Kind
  Posting : Kind
  Departing : Kind
  Arriving : Kind
  Locating : Kind
  Closing : Kind
  Telling : Kind

abbrev pub kind_of : Event → Kind
kind_of (Change change) = Changing
kind_of OpenRound = Opening
kind_of (Pin round) = Pinning
kind_of (Post round plan) = Posting
kind_of (Depart round entry) = Departing
kind_of (Arrive round entry verdict) = Arriving
kind_of (Locate round) = Locating
kind_of (Close round) = Closing
kind_of Current = Telling

-- the events that a refusal may answer
abbrev pub refused_kinds : Refusal → List Kind
refused_kinds (refusals.LogFull place) =
    Changing ∷ Opening ∷ Pinning ∷ Posting ∷ Departing ∷ Arriving ∷ Locating ∷ Closing ∷ Telling ∷ []
refused_kinds (refusals.NoRound round) = Pinning ∷ Posting ∷ Departing ∷ Arriving ∷ Locating ∷ Closing ∷ []
refused_kinds (refusals.NoPlan round) = Departing ∷ Arriving ∷ Locating ∷ []
refused_kinds (refusals.AlreadyPosted round) = Posting ∷ []
refused_kinds (refusals.WrongSnapshot round) = Posting ∷ []
refused_kinds (refusals.NoEntry entry) = Departing ∷ Arriving ∷ []
refused_kinds (refusals.Moved pinned now) = Departing ∷ Arriving ∷ []
refused_kinds (refusals.AlreadyCounted verdict) = Departing ∷ Arriving ∷ []
refused_kinds refusals.NotSent = Arriving ∷ []
refused_kinds refusals.RoundsFull = Opening ∷ []
refused_kinds (refusals.Rule faults.Twice) = Changing ∷ []
refused_kinds (refusals.Rule faults.Unknown) = Changing ∷ []
refused_kinds (refusals.Rule faults.Limit) = Changing ∷ []
refused_kinds (refusals.Rule faults.Width) = Changing ∷ []
refused_kinds (refusals.Rule faults.PortTaken) = []
refused_kinds (refusals.Rule faults.LinkTaken) = []
refused_kinds (refusals.Rule faults.EdgeLinked) = []
refused_kinds (refusals.Rule faults.NoMemory) = []

abbrev pub FitsEvent : Event → Reply → Type 0
FitsEvent event (replies.Changed version) = kind_of event ≡ Changing
FitsEvent event (replies.Opened round version) = kind_of event ≡ Opening
FitsEvent event (replies.Pinned version net) = kind_of event ≡ Pinning
FitsEvent event (replies.Posted entries) = kind_of event ≡ Posting
FitsEvent event replies.Departed = kind_of event ≡ Departing
FitsEvent event (replies.Counted verdict) = kind_of event ≡ Arriving
FitsEvent event (replies.Located report) = kind_of event ≡ Locating
FitsEvent event (replies.Closed report) = kind_of event ≡ Closing
FitsEvent event (replies.Now version) = kind_of event ≡ Telling
FitsEvent event (replies.Refused refusal) = Contains (refused_kinds refusal) (kind_of event)
FitsEvent event replies.NoMemory = Unit {0}
FitsEvent event replies.Unkept = Unit {0}

pub record Item (D : Type 0) : Type 0 where
  pub event : Event
  pub reply : Reply
  pub after : D

abbrev pub Leads : {D : Type 0} → (D → Event → Reply → D → Type 0) → D → List (Item D) → D → Type 0
Leads asked before [] after = before ≡ after
Leads asked before (item ∷ items) after = asked before item.event item.reply item.after × Leads asked item.after items after
