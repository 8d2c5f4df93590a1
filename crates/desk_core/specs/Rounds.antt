-- Rounds. They are numbered from 1 in order of opening, and no number is used again.
--     most_open     how many rounds may be open
--     openings      for each round what was before it was opened: an OpenRound opens one where fewer than so many are open
--     is_open       it was opened, and no Close of it stands since
--     open_rounds   the numbers of the open rounds
--     at_opening    the network and version at its opening, where it was opened
--     is_posted     a Post of it with a plan that fits stands at a place where it was open
--     is_current    the version is the one of its opening
use Rattle.std.specs.Prelude.{ℕ, zero, suc, ◌-◌, ◌==◌, nat_lt, Bool, false, not, ◌&&◌, List, [], ◌∷◌, ◌++◌, length, slice_get, take, unwrap_or, Option, Some, None, if◌then◌else◌}
use Rattle.std.specs.List.{filter, list_any, range_with_len}
use Rattle.network_model.specs.Network.{Network}
use Rattle.net_versions.specs.VersionsValue.{VersionsValue}
use Rattle.desk_core.specs.Past.{Past, moments}
use Rattle.desk_core.specs.Events.{opens, closes, posts}
use Rattle.desk_core.specs.Versions.{now}

abbrev pub most_open : ℕ
most_open = 16

-- of the round with this number among those that were opened after these pasts
abbrev pub opening_of : List Past → ℕ → Option Past
opening_of opened zero = None
opening_of opened (suc earlier) = slice_get opened earlier

-- the entries of a past since one of its places
abbrev pub since : Past → Past → Past
since before past = take (length past - length before) past

abbrev pub is_still_open : Option Past → Past → ℕ → Bool
is_still_open None past round = false
is_still_open (Some before) past round = not (list_any (closes round) (since before past))

abbrev pub is_open_of : List Past → Past → ℕ → Bool
is_open_of opened past round = is_still_open (opening_of opened round) past round

abbrev pub open_of : List Past → Past → List ℕ
open_of opened past = filter (is_open_of opened past) (range_with_len 1 (length opened))

abbrev pub openings : Past → List Past
openings [] = []
openings (entry ∷ past) =
    if opens entry && nat_lt (length (open_of (openings past) past)) most_open then openings past ++ past ∷ [] else openings past

abbrev pub is_open : Past → ℕ → Bool
is_open past round = is_open_of (openings past) past round

abbrev pub open_rounds : Past → List ℕ
open_rounds past = open_of (openings past) past

abbrev pub at_opening : Network → Past → ℕ → VersionsValue
at_opening opening past round = now opening (unwrap_or (opening_of (openings past) round) [])

abbrev pub is_posted : Past → ℕ → Bool
is_posted past round = list_any (λ m. posts round m.entry && is_open m.past round) (moments past)

abbrev pub is_current : Network → Past → ℕ → Bool
is_current opening past round = (at_opening opening past round).version == (now opening past).version
