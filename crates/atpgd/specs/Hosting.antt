-- The server as a whole.
--     failure           how it ends where a worker ended so
--     status_of         how it ends, by how its workers ended
--     HasHosted         the workers served
--     IsHosted          so did the server
--     NotOpened         why no doors were opened
--     DaemonRefused     why it didn't
--     IsDaemon          either
use Rattle.std.specs.Prelude.{◌≡◌, ◌↔◌, ℕ, List, [], ◌∷◌, map, All, Option, None, Some, IsSome, unwrap_or}
use Rattle.std.specs.List.{AllZip}
use Rattle.byte_edges.specs.Counts.{Rose}
use Rattle.command_line.specs.Table.{IsLine}
use Rattle.network_model.specs.Network.{Network}
use Rattle.desk_turns.specs.Shared.{DeskId, PassValue}
use Rattle.program_edges.specs.Input.{HasNetwork}
use Rattle.atpgd.specs.CommandLine.{names, IsBadAt}
use Rattle.atpgd.specs.Doors.{DoorSide, LineSides, AreOpened}
use Rattle.atpgd.specs.Opening.{IsReady, ReadyRefused}
use Rattle.atpgd.specs.Serving.{IsWorked}
use Rattle.atpgd.specs.declared.words.Options.{Options}
use Rattle.atpgd.specs.declared.work_end.WorkEnd.{WorkEnd}
use Rattle.atpgd.specs.declared.work_end.WorkEnd.TheVariants as work
use Rattle.atpgd.specs.declared.serve.Worker.{Worker}
use Rattle.atpgd.specs.declared.daemon.Hosted.{Hosted}
use Rattle.atpgd.specs.declared.status.Status.{Status}
use Rattle.atpgd.specs.declared.status.Status.TheVariants.{Done, BadWords, ReadFault, TooLong, BadNet, DoorFault, NoMemory}

abbrev pub failure : Option WorkEnd → Option Status
failure None = None
failure (Some work.Stopped) = None
failure (Some work.Shut) = None
failure (Some work.DoorFault) = Some DoorFault
failure (Some work.NoMemory) = Some NoMemory

-- The first worker that ended otherwise than at `stop` or at a door that was shut decides.
abbrev pub status_of : List (Option WorkEnd) → Status
status_of [] = Done
status_of (ended ∷ others) = unwrap_or (failure ended) (status_of others)

-- One worker for each pass, in order, over the doors that the harbour opened, in order.
pub record HasHosted {D L : Type 0} (side : D → DoorSide L) (sides : LineSides L) (options : Options) (desk : DeskId) (passes : List PassValue) (doors doors_after : Option (List D)) (faults faults_after : ℕ) (status : Status) (hosted : Hosted D) : Type 0 where
  pub desk_is : hosted.desk ≡ desk
  pub begun : List (Worker D)
  pub passes_are : map (λ (w : Worker D). w.pass) begun ≡ passes
  pub opened : AreOpened doors (map (λ (w : Worker D). w.door) begun) doors_after
  pub steady : faults_after ≡ faults
  pub worked : AllZip (IsWorked side sides options) begun hosted.workers.items
  pub ended : All (λ (w : Worker D). IsSome w.ended) hosted.workers.items
  pub status_is : status ≡ status_of (map (λ (w : Worker D). w.ended) hosted.workers.items)

-- it served, with what was ready before
pub record IsHosted {S D L : Type 0} (words : List (List ℕ)) (left : S → Option (List ℕ)) (given ends : S → ℕ) (side : D → DoorSide L) (sides : LineSides L) (source source_after : S) (doors doors_after : Option (List D)) (faults faults_after : ℕ) (status : Status) (hosted : Hosted D) : Type 0 where
  pub options : Options
  pub desk : DeskId
  pub passes : List PassValue
  pub ready : IsReady words left given ends source source_after options desk passes
  pub served : HasHosted side sides options desk passes doors doors_after faults faults_after status hosted

-- why there are no doors
abbrev pub NotOpened : ℕ → ℕ → Status → Type 0
NotOpened faults faults_after DoorFault = Rose faults faults_after
NotOpened faults faults_after NoMemory = Unit {0}
NotOpened faults faults_after Done = ⊥
NotOpened faults faults_after (BadWords at) = ⊥
NotOpened faults faults_after ReadFault = ⊥
NotOpened faults faults_after TooLong = ⊥
NotOpened faults faults_after (BadNet line fault) = ⊥

-- Where the input is refused the harbour was asked for nothing.
abbrev pub DaemonRefused : {S H : Type 0} → List (List ℕ) → (S → Option (List ℕ)) → (S → ℕ) → (S → ℕ) → (S → ℕ) → (H → ℕ) → S → S → H → H → Status → Type 0
DaemonRefused words left given ends faults harbour_faults source source_after harbour harbour_after (BadWords at) = ReadyRefused words left given ends faults source source_after (BadWords at) × (harbour_after ≡ harbour)
DaemonRefused words left given ends faults harbour_faults source source_after harbour harbour_after ReadFault = ReadyRefused words left given ends faults source source_after ReadFault × (harbour_after ≡ harbour)
DaemonRefused words left given ends faults harbour_faults source source_after harbour harbour_after TooLong = ReadyRefused words left given ends faults source source_after TooLong × (harbour_after ≡ harbour)
DaemonRefused words left given ends faults harbour_faults source source_after harbour harbour_after (BadNet line fault) = ReadyRefused words left given ends faults source source_after (BadNet line fault) × (harbour_after ≡ harbour)
DaemonRefused words left given ends faults harbour_faults source source_after harbour harbour_after DoorFault =
    IsLine names words × ((net : Network) × HasNetwork left given ends source source_after net) × Rose (harbour_faults harbour) (harbour_faults harbour_after)
DaemonRefused words left given ends faults harbour_faults source source_after harbour harbour_after NoMemory = IsLine names words
DaemonRefused words left given ends faults harbour_faults source source_after harbour harbour_after Done = ⊥

abbrev pub IsDaemon : {S H D L : Type 0} → List (List ℕ) → (S → Option (List ℕ)) → (S → ℕ) → (S → ℕ) → (S → ℕ) → (H → Option (List D)) → (H → ℕ) → (D → DoorSide L) → LineSides L → S → S → H → H → Status → Option (Hosted D) → Type 0
IsDaemon words left given ends faults doors harbour_faults side sides source source_after harbour harbour_after status None =
    DaemonRefused words left given ends faults harbour_faults source source_after harbour harbour_after status
IsDaemon words left given ends faults doors harbour_faults side sides source source_after harbour harbour_after status (Some hosted) =
    IsHosted words left given ends side sides source source_after (doors harbour) (doors harbour_after) (harbour_faults harbour) (harbour_faults harbour_after) status hosted
