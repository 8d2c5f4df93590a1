-- A link whose calls fail as listed.
--     Calls     which calls fail, how many there were, and how many of them failed
--     Faulty    a link within such calls
use Rattle.std.specs.Prelude.{ℕ, ◌+◌, ◌-◌, ◌^◌, min}
use Rattle.byte_edges.specs.Scheduled.{Plan}

pub record Calls : Type 0 where
  pub plan : Plan
  pub failed : ℕ

pub record Faulty (L : Type 0) : Type 0 where
  pub inner : L
  pub calls : Calls

-- the failures of both, a number that stops at 2^64 - 1
abbrev pub all_faults : ℕ → ℕ → ℕ
all_faults failed inner = min (failed + inner) (2 ^ 64 - 1)
