-- The end of the program.
--     HasRun    a run of the words that the program was given
use Rattle.std.specs.Prelude.{◌≡◌, ℕ, ◌⊎◌, List, Option, IfSome}
use Rattle.program_edges.specs.Arguments.{AreTaken}
use Rattle.atpg.specs.SessionRun.{IsRun}
use Rattle.atpg.specs.declared.status.Status.{Status}
use Rattle.atpg.specs.declared.status.Status.TheVariants.{NoMemory}

-- The words are those that were given, where these are told. Where there was no memory for them, nothing was read or written.
abbrev pub HasRun : {S K : Type 0} → Option (List (List ℕ)) → (S → Option (List ℕ)) → (S → ℕ) → (S → ℕ) → (S → ℕ) → (K → Option (List ℕ)) → (K → ℕ) → S → S → K → K → Status → Type 0
HasRun told left given ends faults taken sink_faults source source_after sink sink_after status =
    ((words : List (List ℕ)) × IfSome told (λ all. AreTaken all words) × IsRun words left given ends faults taken sink_faults source source_after sink sink_after status)
    ⊎ ((status ≡ NoMemory) × (source_after ≡ source) × (sink_after ≡ sink))
