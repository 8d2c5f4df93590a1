-- Packets that wait, as pairs of a terminal and bytes.
use Rattle.std.specs.Prelude.{ℕ, List, [], ◌∷◌, Option, None, Some, map}
use Rattle.field_sim.specs.declared.field.Waiting.{Waiting}

abbrev pub listed : Waiting → ℕ × List ℕ
listed waiting = (waiting.term, waiting.bytes)

abbrev pub all_listed : List Waiting → List (ℕ × List ℕ)
all_listed packets = map listed packets

-- what one packet adds, if there is one
abbrev pub waits : Option Waiting → List (ℕ × List ℕ)
waits None = []
waits (Some waiting) = listed waiting ∷ []
