-- A history up to some place of it.
--     Past       the entries before a place, the latest first
--     past_of    of a log, whose first entry is the earliest
--     Moment     an entry, and what was before it
--     moments    each entry with what was before it, the latest first
use Rattle.std.specs.Prelude.{List, [], ◌∷◌, reverse}
use Rattle.desk_core.specs.declared.event.Logged.{Logged}

abbrev pub Past : Type 0
Past = List Logged

abbrev pub past_of : List Logged → Past
past_of log = reverse log

pub record Moment : Type 0 where
  pub entry : Logged
  pub past : Past

abbrev pub moments : Past → List Moment
moments [] = []
moments (entry ∷ past) = record { entry = entry; past = past } ∷ moments past
