-- What an entry of a history is. One that is not stored is none of these, so that it is passed over.
--     change_of      the change that was asked for
--     opens          it asks for a round
--     closes, posts, departs, arrives    it is of this round (and entry); a Post is one of a plan that fits
--     verdict_in     the verdict of an arrival
use Rattle.std.specs.Prelude.{ℕ, ◌==◌, Bool, true, false, ◌&&◌, Option, Some, None, if◌then◌else◌}
use Rattle.net_versions.specs.declared.change.Change.{Change as Changing}
use Rattle.suspect_book.specs.declared.verdict.Verdict.{Verdict}
use Rattle.desk_core.specs.declared.event.LoggedEvent.{LoggedEvent}
use Rattle.desk_core.specs.declared.event.LoggedEvent.TheVariants.{Change, OpenRound, Post, Depart, Arrive, Close}
use Rattle.desk_core.specs.declared.event.Logged.{Logged}

abbrev pub event_change : LoggedEvent → Option Changing
event_change (Change change) = Some change
event_change _ = None

abbrev pub is_opening : LoggedEvent → Bool
is_opening OpenRound = true
is_opening _ = false

abbrev pub is_close : ℕ → LoggedEvent → Bool
is_close round (Close of) = of == round
is_close round _ = false

abbrev pub is_post : ℕ → LoggedEvent → Bool
is_post round (Post of fits) = (of == round) && fits
is_post round _ = false

abbrev pub is_departure : ℕ → ℕ → LoggedEvent → Bool
is_departure round entry (Depart of number) = (of == round) && (number == entry)
is_departure round entry _ = false

abbrev pub is_arrival : ℕ → ℕ → LoggedEvent → Bool
is_arrival round entry (Arrive of number verdict) = (of == round) && (number == entry)
is_arrival round entry _ = false

abbrev pub event_verdict : LoggedEvent → Option Verdict
event_verdict (Arrive of number verdict) = Some verdict
event_verdict _ = None

abbrev pub change_of : Logged → Option Changing
change_of x = if x.stored then event_change x.event else None

abbrev pub opens : Logged → Bool
opens x = x.stored && is_opening x.event

abbrev pub closes : ℕ → Logged → Bool
closes round x = x.stored && is_close round x.event

abbrev pub posts : ℕ → Logged → Bool
posts round x = x.stored && is_post round x.event

abbrev pub departs : ℕ → ℕ → Logged → Bool
departs round entry x = x.stored && is_departure round entry x.event

abbrev pub arrives : ℕ → ℕ → Logged → Bool
arrives round entry x = x.stored && is_arrival round entry x.event

abbrev pub verdict_in : Logged → Option Verdict
verdict_in x = event_verdict x.event
