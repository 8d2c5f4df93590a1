-- Departures and arrivals that count. The plan of a round has so many entries, numbered from 1.
--     is_live     the round is open, posted and current, and the number is of an entry
--     sender      who noted the last departure of the entry at a place that is live
--     counted     the verdict of the first arrival of the entry at a place that is live, by the sender there
--     verdicts    of each entry, in the order of the table
--     outcomes    the entries that have one, with it
use Rattle.std.specs.Prelude.{ℕ, ◌==◌, nat_le, Bool, false, ◌&&◌, List, map, reverse, Option, Some, None}
use Rattle.std.specs.List.{find, range_with_len}
use Rattle.std.specs.Option.{option_map, option_and_then}
use Rattle.network_model.specs.Network.{Network}
use Rattle.fault_model.specs.Outcomes.{Outcome}
use Rattle.suspect_book.specs.declared.verdict.Verdict.{Verdict}
use Rattle.suspect_book.specs.Verdicts.{outcomes as outcomes_of}
use Rattle.desk_core.specs.Past.{Past, Moment, moments}
use Rattle.desk_core.specs.Events.{departs, arrives, verdict_in}
use Rattle.desk_core.specs.Rounds.{is_open, is_posted, is_current}

abbrev pub is_entry : ℕ → ℕ → Bool
is_entry entries entry = nat_le 1 entry && nat_le entry entries

abbrev pub is_live : Network → ℕ → Past → ℕ → ℕ → Bool
is_live opening entries past round entry =
    is_open past round && (is_posted past round && (is_current opening past round && is_entry entries entry))

abbrev pub sender : Network → ℕ → Past → ℕ → ℕ → Option ℕ
sender opening entries past round entry =
    option_map (λ (m : Moment). m.entry.caller)
    (find (λ m. departs round entry m.entry && is_live opening entries m.past round entry) (moments past))

abbrev pub is_caller : Option ℕ → ℕ → Bool
is_caller None caller = false
is_caller (Some sent_by) caller = sent_by == caller

-- whether the entry of a moment is an arrival that counts, unless an earlier one does
abbrev pub may_count : Network → ℕ → ℕ → ℕ → Moment → Bool
may_count opening entries round entry m =
    arrives round entry m.entry
    && (is_live opening entries m.past round entry && is_caller (sender opening entries m.past round entry) m.entry.caller)

abbrev pub counted : Network → ℕ → Past → ℕ → ℕ → Option Verdict
counted opening entries past round entry =
    option_and_then (λ (m : Moment). verdict_in m.entry)
    (find (may_count opening entries round entry) (reverse (moments past)))

abbrev pub verdicts : Network → ℕ → Past → ℕ → List (Option Verdict)
verdicts opening entries past round = map (counted opening entries past round) (range_with_len 1 entries)

abbrev pub outcomes : Network → ℕ → Past → ℕ → List Outcome
outcomes opening entries past round = outcomes_of (verdicts opening entries past round)
