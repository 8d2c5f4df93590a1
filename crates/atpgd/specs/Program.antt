-- The end of the program.
--     HasServed    the server ran by the words that the program was given
use Rattle.std.specs.Prelude.{◌≡◌, ℕ, ◌⊎◌, List, Option, IfSome}
use Rattle.program_edges.specs.Arguments.{AreTaken}
use Rattle.atpgd.specs.Doors.{DoorSide, LineSides}
use Rattle.atpgd.specs.Hosting.{IsDaemon}
use Rattle.atpgd.specs.declared.daemon.Hosted.{Hosted}
use Rattle.atpgd.specs.declared.status.Status.{Status}
use Rattle.atpgd.specs.declared.status.Status.TheVariants.{NoMemory}

-- The words are those that were given, where these are told. Where there was no memory for them, nothing was read or opened.
abbrev pub HasServed : {S H D L : Type 0} → Option (List (List ℕ)) → (S → Option (List ℕ)) → (S → ℕ) → (S → ℕ) → (S → ℕ) → (H → Option (List D)) → (H → ℕ) → (D → DoorSide L) → LineSides L → S → S → H → H → Status → Type 0
HasServed told left given ends faults doors harbour_faults side sides source source_after harbour harbour_after status =
    ((words : List (List ℕ)) × IfSome told (λ all. AreTaken all words)
    × ((hosted : Option (Hosted _)) × IsDaemon words left given ends faults doors harbour_faults side sides source source_after harbour harbour_after status hosted))
    ⊎ ((status ≡ NoMemory) × (source_after ≡ source) × (harbour_after ≡ harbour))
