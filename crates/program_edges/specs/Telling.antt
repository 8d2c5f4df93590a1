-- What is told on a sink.
--     IsTold    a text was written, or how much of it
use Rattle.std.specs.Prelude.{ℕ, ◌<◌, List, Option, length, take, Result, OnOk, IsErrOf}
use Rattle.byte_edges.specs.Counts.{Rose}
use Rattle.byte_edges.specs.Writing.{Took}
use Rattle.byte_edges.specs.declared.fault.WriteWhole.{WriteWhole}
use Rattle.byte_edges.specs.declared.fault.WriteWhole.TheVariants as why

-- With Ok all of the text was taken. Where the sink failed, exactly the first `written` bytes were.
pub record IsTold {E : Type 0} (taken : E → Option (List ℕ)) (faults : E → ℕ) (before after : E) (text : List ℕ) (told : Result Unit WriteWhole) : Type 0 where
  pub whole : OnOk told (Took (taken before) (taken after) text)
  pub failed : (written : ℕ) → IsErrOf told (why.WriteFault written) →
      Rose (faults before) (faults after) × (written < length text) × Took (taken before) (taken after) (take written text)
  pub no_memory : IsErrOf told why.NoMemory → (n : ℕ) × (n < length text) × Took (taken before) (taken after) (take n text)
