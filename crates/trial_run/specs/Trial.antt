-- What a trial tells.
--     is_in            a rule is in a network
--     first_unknown    the first of some rules that is not
--     outcome          an entry with its verdict, as an outcome
--     outcomes_of      the same of each, in order
use Rattle.std.specs.Prelude.{ℕ, Bool, not, List, map, is_some, Option}
use Rattle.std.specs.List.{find}
use Rattle.network_model.specs.Network.{Network, value_at}
use Rattle.fault_model.specs.Outcomes.{Outcome}
use Rattle.suspect_book.specs.declared.verdict.Verdict.{Verdict}
use Rattle.suspect_book.specs.Verdicts.{meaning}

abbrev pub is_in : Network → ℕ → Bool
is_in net rule = is_some (value_at net.rules rule)

abbrev pub first_unknown : Network → List ℕ → Option ℕ
first_unknown net rules = find (λ rule. not (is_in net rule)) rules

abbrev pub outcome : ℕ × Verdict → Outcome
outcome sent = record { entry = sent.0; verdict = meaning sent.1 }

abbrev pub outcomes_of : List (ℕ × Verdict) → List Outcome
outcomes_of sent = map outcome sent
