-- The verdicts of a table's entries, each where there is one, in table order.
--     meaning       a verdict of the model
--     verdict_at    the verdict of an entry, by its number from 1
--     outcomes      the entries that have a verdict, with it
use Rattle.std.specs.Prelude.{ℕ, zero, suc, List, [], ◌∷◌, slice_get, Option, None, Some}
use Rattle.fault_model.specs.Outcomes as model
use Rattle.suspect_book.specs.declared.verdict.Verdict.{Verdict}
use Rattle.suspect_book.specs.declared.verdict.Verdict.TheVariants.{Pass, Fail}

abbrev pub meaning : Verdict → model.Verdict
meaning Pass = model.Pass
meaning Fail = model.Fail

abbrev pub inner : Option (Option Verdict) → Option Verdict
inner None = None
inner (Some verdict) = verdict

abbrev pub verdict_at : List (Option Verdict) → ℕ → Option Verdict
verdict_at verdicts zero = None
verdict_at verdicts (suc row) = inner (slice_get verdicts row)

-- those from a number on
abbrev pub outcomes_from : ℕ → List (Option Verdict) → List model.Outcome
outcomes_from n [] = []
outcomes_from n (None ∷ verdicts) = outcomes_from (suc n) verdicts
outcomes_from n (Some verdict ∷ verdicts) = record { entry = n; verdict = meaning verdict } ∷ outcomes_from (suc n) verdicts

abbrev pub outcomes : List (Option Verdict) → List model.Outcome
outcomes verdicts = outcomes_from 1 verdicts
