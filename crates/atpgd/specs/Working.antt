-- What a worker does with the lines of its door.
--     Visit            a line as the door gave it and as it was given back, the worker's pass after it, and how its session ended
--     AreVisits        these lines were served one after another, which leads from one pass to another
--     AreNotStopped    no session ended at `stop`
--     EndsBy           how a worker ended, by what happened at its door, or that it goes on
--     HasWorked        all of this
use Rattle.std.specs.Prelude.{◌≡◌, ◌≢◌, ℕ, true, List, [], ◌∷◌, ◌++◌, map, All, Option, None, Some, IfSome}
use Rattle.byte_edges.specs.Counts.{raised, Rose}
use Rattle.session_lines.specs.declared.ends.SessionEnd.{SessionEnd}
use Rattle.session_lines.specs.declared.ends.SessionEnd.TheVariants.{Ended}
use Rattle.atpgd.specs.declared.work_end.WorkEnd.{WorkEnd}
use Rattle.atpgd.specs.declared.work_end.WorkEnd.TheVariants.{Stopped, Shut, DoorFault, NoMemory}
use Rattle.atpgd.specs.Doors.{DoorSide, HasGiven}

pub record Visit (P L : Type 0) : Type 0 where
  pub came : L
  pub gone : L
  pub after : P
  pub end : SessionEnd

abbrev pub AreVisits : {P L : Type 0} → (P → P → L → L → SessionEnd → Type 0) → P → List (Visit P L) → P → Type 0
AreVisits serves before [] after = before ≡ after
AreVisits serves before (visit ∷ visits) after = serves before visit.after visit.came visit.gone visit.end × AreVisits serves visit.after visits after

abbrev pub AreNotStopped : {P L : Type 0} → List (Visit P L) → Type 0
AreNotStopped visits = All (λ visit. visit.end ≢ Ended true) visits

-- only the last session ended at `stop`
pub record LastStopped {P L : Type 0} (visits : List (Visit P L)) : Type 0 where
  pub earlier : List (Visit P L)
  pub last : Visit P L
  pub are : visits ≡ earlier ++ last ∷ []
  pub others : AreNotStopped earlier
  pub stopped : last.end ≡ Ended true

-- the door didn't fail, and didn't answer that it is shut
abbrev pub IsQuiet : {L : Type 0} → DoorSide L → DoorSide L → Type 0
IsQuiet before after = (after.faults ≡ before.faults) × (after.shut ≡ before.shut)

abbrev pub EndsBy : {P L : Type 0} → List (Visit P L) → DoorSide L → DoorSide L → Option WorkEnd → Type 0
EndsBy visits before after None = AreNotStopped visits × IsQuiet before after
EndsBy visits before after (Some Stopped) = LastStopped visits × IsQuiet before after
EndsBy visits before after (Some Shut) = AreNotStopped visits × (after.faults ≡ before.faults) × (after.shut ≡ raised before.shut 1) × IfSome after.lines (λ left. left ≡ [])
EndsBy visits before after (Some DoorFault) = AreNotStopped visits × Rose before.faults after.faults × (after.shut ≡ before.shut)
EndsBy visits before after (Some NoMemory) = AreNotStopped visits × IsQuiet before after

-- `serves` says what one session does: the passes before and after it, the line before and after it, and its end.
pub record HasWorked {P L : Type 0} (serves : P → P → L → L → SessionEnd → Type 0) (door door_after : DoorSide L) (pass pass_after : P) (ended : Option WorkEnd) : Type 0 where
  pub visits : List (Visit P L)
  pub served : AreVisits serves pass visits pass_after
  pub given : HasGiven door door_after (map (λ (visit : Visit P L). visit.came) visits) (map (λ (visit : Visit P L). visit.gone) visits)
  pub ends : EndsBy visits door door_after ended
