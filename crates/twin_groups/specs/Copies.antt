-- Entries copied for twins, one twin after another.
--     copies_by_twin    for each twin those of its terminal, as they begin at the twin
use Rattle.std.specs.Prelude.{ℕ, List, [], ◌∷◌, ◌++◌, map, nat_eq}
use Rattle.std.specs.List.{filter}
use Rattle.network_model.specs.Table.{Entry}
use Rattle.twin_laws.specs.Twins.{as_from}

abbrev pub copies_by_twin : List (ℕ × ℕ) → List Entry → List Entry
copies_by_twin [] entries = []
copies_by_twin (t ∷ ts) entries = map (as_from t.1) (filter (λ (e : Entry). nat_eq t.0 e.«from») entries) ++ copies_by_twin ts entries
