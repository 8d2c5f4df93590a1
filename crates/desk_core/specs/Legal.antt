-- Histories that may be.
--     may_lack_memory    an event that takes memory, so that its entry may not be stored
--     IsLegal            each entry that is not stored is one of these, and each Post of a plan that fits is of a round open there
use Rattle.std.specs.Prelude.{Bool, true, false, ◌&&◌, ◌||◌, IsTrue}
use Rattle.std.specs.List.{list_all}
use Rattle.desk_core.specs.declared.event.LoggedEvent.{LoggedEvent}
use Rattle.desk_core.specs.declared.event.LoggedEvent.TheVariants.{Change, OpenRound, Pin, Post, Depart, Arrive, Locate, Close, Current}
use Rattle.desk_core.specs.Past.{Past, Moment, moments}
use Rattle.desk_core.specs.Rounds.{is_open}

abbrev pub may_lack_memory : LoggedEvent → Bool
may_lack_memory (Change change) = true
may_lack_memory OpenRound = true
may_lack_memory (Pin round) = true
may_lack_memory (Post round fits) = true
may_lack_memory (Depart round entry) = false
may_lack_memory (Arrive round entry verdict) = false
may_lack_memory (Locate round) = true
may_lack_memory (Close round) = true
may_lack_memory Current = false

abbrev pub fits_open : Past → LoggedEvent → Bool
fits_open past (Post round true) = is_open past round
fits_open past _ = true

abbrev pub is_legal_at : Moment → Bool
is_legal_at m = (m.entry.stored || may_lack_memory m.entry.event) && fits_open m.past m.entry.event

abbrev pub IsLegal : Past → Type 0
IsLegal past = IsTrue (list_all is_legal_at (moments past))
