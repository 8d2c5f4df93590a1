-- Histories, and what one caller has in one. A history is a list of entries, the earliest first.
--     Begins seen history              the history begins with what was seen
--     made_by number since history     the places and entries of this caller, from the place `since` on
use Rattle.std.specs.Prelude.{◌≡◌, ℕ, ◌==◌, Bool, List, ◌++◌, drop}
use Rattle.std.specs.List.{filter, enumerate_from}
use Rattle.desk_core.specs.declared.event.Logged.{Logged}

abbrev pub Begins : List Logged → List Logged → Type 0
Begins seen history = (rest : List Logged) × (history ≡ seen ++ rest)

abbrev pub is_by : ℕ → ℕ × Logged → Bool
is_by number call = call.1.caller == number

abbrev pub made_by : ℕ → ℕ → List Logged → List (ℕ × Logged)
made_by number since history = filter (is_by number) (enumerate_from since (drop since history))
