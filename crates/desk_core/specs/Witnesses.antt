-- What stands behind an outcome that a report counts.
--     Place           an entry of a history, with what came after it and what was before it
--     is_accepted     an entry asks for a change, and the network takes it
--     IsOpening       an entry opens the round of this number
--     IsWitnessed     one caller noted the departure and the arrival of the outcome's packet, both where the round could be tried,
--                     and from the opening of the round to the arrival the network stayed as it was
--     AreWitnessed    each outcome of a round is
--     IsReport        what a report on a round tells is what these outcomes tell
--     IsEnding        what the last report on a round tells; nothing of a round that never had a plan
use Rattle.std.specs.Prelude.{◌≡◌, ℕ, suc, ◌<◌, ◌≤◌, Bool, true, false, ◌∷◌, ◌++◌, length, Option, None, Some, Contains, IsTrue}
use Rattle.std.specs.Bool.{MatchBool}
use Rattle.std.specs.Option.{option_map}
use Rattle.network_model.specs.Network.{Network}
use Rattle.network_model.specs.Plan.{Plan}
use Rattle.fault_model.specs.Outcomes.{Outcome}
use Rattle.fault_model.specs.Findings.{Findings, findings}
use Rattle.net_types.specs.Refusals.{Refusal}
use Rattle.net_versions.specs.declared.change.Change.{Change as Changing}
use Rattle.net_versions.specs.Changes.{change_refusal}
use Rattle.suspect_book.specs.Verdicts.{meaning}
use Rattle.desk_core.specs.declared.event.Logged.{Logged}
use Rattle.desk_core.specs.Past.{Past}
use Rattle.desk_core.specs.Events.{change_of, opens, departs, arrives, verdict_in}
use Rattle.desk_core.specs.Versions.{now}
use Rattle.desk_core.specs.Rounds.{most_open, openings, open_rounds, is_open, is_posted}
use Rattle.desk_core.specs.Counting.{is_live, outcomes}
use Rattle.desk_core.specs.Replies.{nothing_found}

pub record Place (past : Past) : Type 0 where
  pub later : Past
  pub entry : Logged
  pub before : Past
  pub whole : past ≡ later ++ entry ∷ before

abbrev pub is_free : Option Refusal → Bool
is_free None = true
is_free (Some why) = false

abbrev pub takes : Network → Option Changing → Bool
takes net None = false
takes net (Some change) = is_free (change_refusal net change)

abbrev pub is_accepted : Network → Past → Logged → Bool
is_accepted opening before entry = takes (now opening before).net (change_of entry)

pub record IsOpening (before : Past) (entry : Logged) (round : ℕ) : Type 0 where
  pub asked : IsTrue (opens entry)
  pub few : length (open_rounds before) < most_open
  pub number : round ≡ suc (length (openings before))

-- A place with more before it is a later one.
pub record IsWitnessed (opening : Network) (entries : ℕ) (past : Past) (round : ℕ) (outcome : Outcome) : Type 0 where
  pub arrival : Place past
  pub departure : Place arrival.before
  pub opened : Place departure.before
  pub opens_it : IsOpening opened.before opened.entry round
  pub one_caller : departure.entry.caller ≡ arrival.entry.caller
  pub departed : IsTrue (departs round outcome.entry departure.entry)
  pub arrived : IsTrue (arrives round outcome.entry arrival.entry)
  pub verdict : option_map meaning (verdict_in arrival.entry) ≡ Some outcome.verdict
  pub live_departure : IsTrue (is_live opening entries departure.before round outcome.entry)
  pub live_arrival : IsTrue (is_live opening entries arrival.before round outcome.entry)
  pub latest : (other : Place arrival.before) → IsTrue (departs round outcome.entry other.entry)
      → IsTrue (is_live opening entries other.before round outcome.entry) → length other.before ≤ length departure.before
  pub unchanged : (other : Place arrival.before) → length opened.before ≤ length other.before → is_accepted opening other.before other.entry ≡ false

abbrev pub AreWitnessed : Network → ℕ → Past → ℕ → Type 0
AreWitnessed opening entries past round =
    (outcome : Outcome) → Contains (outcomes opening entries past round) outcome → IsWitnessed opening entries past round outcome

pub record IsReport (opening : Network) (plan : Plan) (past : Past) (round : ℕ) (found : Findings) : Type 0 where
  pub open_there : IsTrue (is_open past round)
  pub posted_there : IsTrue (is_posted past round)
  pub told : found ≡ findings plan (outcomes opening (length plan.table) past round)
  pub witnessed : AreWitnessed opening (length plan.table) past round

abbrev pub IsEnding : Network → Plan → Past → ℕ → Findings → Type 0
IsEnding opening plan past round found = MatchBool (is_posted past round) (IsReport opening plan past round found) (found ≡ nothing_found)
