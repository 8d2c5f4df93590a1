-- Marks at the places of numbers.
--     Tells        the mark at a place says whether the number there passes a test
--     TellsLeft    a mark without a second mark says it
--     is_rule      the rule that may be there is this one
--     is_lone      a rule is the only suspect rule of an entry that failed
use Rattle.std.specs.Prelude.{◌≡◌, ◌==◌, ℕ, ◌<◌, Bool, false, not, ◌&&◌, List, length, slice_index, slice_index_or, Option, None, Some}
use Rattle.network_model.specs.Table.{Entry}
use Rattle.fault_model.specs.Outcomes.{Outcome, failed, has}
use Rattle.fault_model.specs.Findings.{is_only, suspects_on}

abbrev pub Tells : List ℕ → (ℕ → Bool) → List Bool → Type 0
Tells numbers test marks = (p : ℕ) → p < length numbers → slice_index_or marks p false ≡ test (slice_index numbers p)

abbrev pub TellsLeft : List ℕ → (ℕ → Bool) → List Bool → List Bool → Type 0
TellsLeft numbers test marks cleared =
    (p : ℕ) → p < length numbers → (slice_index_or marks p false && not (slice_index_or cleared p false)) ≡ test (slice_index numbers p)

abbrev pub is_rule : Option ℕ → ℕ → Bool
is_rule None rule = false
is_rule (Some only) rule = rule == only

abbrev pub is_lone : List Entry → List Outcome → ℕ → ℕ → Bool
is_lone table outcomes n rule = has (failed outcomes) n && is_only (suspects_on table outcomes n) rule
