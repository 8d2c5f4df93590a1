-- What a sink takes.
use Rattle.std.specs.Prelude.{◌≡◌, ℕ, List, Option}
use Rattle.std.specs.Io.KnownBytes.{append_known}

-- A sink took these bytes between two moments: where it tells what it took, they stand at its end, and nothing else changed.
abbrev pub Took : Option (List ℕ) → Option (List ℕ) → List ℕ → Type 0
Took before after bytes = after ≡ append_known before bytes
