-- What packets come to where some rules lose all of theirs.
--     arrives_as    a packet comes to this terminal with this header
--     verdict_of    an entry passes exactly if its packet is delivered as the entry says
--     outcome_of    an entry with its verdict
--     and_telling   these outcomes and then that of the telling entry, so many times or until there is none
--     follow        the outcomes of all probes, and then that of the telling entry until there is none
use Rattle.std.specs.Prelude.{ℕ, zero, suc, ◌==◌, Bool, false, ◌&&◌, List, [], ◌∷◌, ◌++◌, length, map, Option, None, Some, if◌then◌else◌}
use Rattle.std.specs.Ordering.{is_eq}
use Rattle.network_model.specs.Bits.{Header, header_cmp}
use Rattle.network_model.specs.Network.{Network}
use Rattle.network_model.specs.Table.{Entry}
use Rattle.network_model.specs.Cover.{entry_at}
use Rattle.network_model.specs.Plan.{Plan, reserved}
use Rattle.network_model.specs.Field.{field}
use Rattle.fault_model.specs.Outcomes.{Verdict, Pass, Fail, Outcome}
use Rattle.fault_model.specs.Findings.{telling}

abbrev pub arrives_as : Option (ℕ × Header) → ℕ → Header → Bool
arrives_as None terminal header = false
arrives_as (Some arrival) terminal header = (arrival.0 == terminal) && is_eq (header_cmp arrival.1 header)

abbrev pub verdict_of : Network → ℕ → List ℕ → Option Entry → Verdict
verdict_of net hops bad None = Fail
verdict_of net hops bad (Some e) = if arrives_as (field net hops bad e.from e.least) e.to e.arrives then Pass else Fail

abbrev pub outcome_of : Network → ℕ → List ℕ → List Entry → ℕ → Outcome
outcome_of net hops bad table n = record { entry = n; verdict = verdict_of net hops bad (entry_at table n) }

-- the outcome of an entry, where there is one, beside the others
abbrev pub and_told : Network → ℕ → Plan → List ℕ → (List Outcome → List Outcome) → List Outcome → Option ℕ → List Outcome
and_told net hops plan bad go_on outcomes None = outcomes
and_told net hops plan bad go_on outcomes (Some n) = go_on (outcomes ++ outcome_of net hops bad plan.table n ∷ [])

abbrev pub and_telling : Network → ℕ → Plan → List ℕ → ℕ → List Outcome → List Outcome
and_telling net hops plan bad zero outcomes = outcomes
and_telling net hops plan bad (suc times) outcomes =
    and_told net hops plan bad (and_telling net hops plan bad times) outcomes (telling plan outcomes)

-- A reserved entry gets one verdict at most, so that there is none left to tell after as many as are reserved.
abbrev pub follow : Network → ℕ → Plan → List ℕ → List Outcome
follow net hops plan bad =
    and_telling net hops plan bad (length (reserved plan)) (map (outcome_of net hops bad plan.table) plan.probes)
