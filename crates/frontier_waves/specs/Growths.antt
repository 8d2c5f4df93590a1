-- What workers have grown of the classes of a wave.
--     IsJob      a class of the wave, by its number, and what it comes to by at most so many more rules
--     AreJobs    some of them
--     IsSlot     a worker's seat is of the board, and its jobs are of the wave
--     AreReady   at the number of each class what it comes to, where a worker has grown it
use Rattle.std.specs.Prelude.{◌≡◌, ◌<◌, ℕ, List, length, slice_index_or, Option, IfSome, All}
use Rattle.network_model.specs.Network.{Network}
use Rattle.claim_board.specs.Claims.{BoardId}
use Rattle.class_tree.specs.declared.class.Class.{Class}
use Rattle.class_tree.specs.declared.growth.Grown.{Grown}
use Rattle.class_tree.specs.Growth.{IsGrown}
use Rattle.frontier_waves.specs.declared.workers.Job.{Job}
use Rattle.frontier_waves.specs.declared.workers.Slot.{Slot}

pub record IsJob (net : Network) (hops stride : ℕ) (wave : List Class) (job : Job) : Type 0 where
  pub inside : job.number < length wave
  pub grown : (d : Class) → IsGrown net hops (slice_index_or wave job.number d) stride job.grown

abbrev pub AreJobs : Network → ℕ → ℕ → List Class → List Job → Type 0
AreJobs net hops stride wave jobs = All (IsJob net hops stride wave) jobs

pub record IsSlot (net : Network) (hops stride : ℕ) (wave : List Class) (board : BoardId) (slot : Slot) : Type 0 where
  pub seat : slot.seat.board ≡ board
  pub jobs : AreJobs net hops stride wave slot.jobs.items

pub record AreReady (net : Network) (hops stride : ℕ) (wave : List Class) (places : List (Option Grown)) : Type 0 where
  pub count : length places ≡ length wave
  pub each : (i : ℕ) (d : Class) (o : Option Grown) → i < length wave → IfSome (slice_index_or places i o) (IsGrown net hops (slice_index_or wave i d) stride)
