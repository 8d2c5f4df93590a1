-- What the server answers, put together.
use Rattle.std.specs.Prelude.{IfNone}
use Rattle.std.proofs.Common.{◌≡◌, ℕ, List, Option, Some, None, IfSome, map, refl, sym, subst}
use Rattle.std.specs.List.{All, range_with_len}
use Rattle.std.proofs.lemmas.List.Elements.{All-map}
use Rattle.list_laws.proofs.Members.{All-from_map}
use Rattle.desk_turns.specs.Shared.{DeskId, PassValue, fresh}
use Rattle.atpgd.specs.declared.serve.Worker.{Worker}
use Rattle.atpgd.specs.declared.daemon.Hosted.{Hosted}
use Rattle.atpgd.specs.declared.status.Status.{Status}
use Rattle.atpgd.specs.declared.status.Status.TheVariants.{Done, BadWords, ReadFault, TooLong, BadNet, DoorFault, NoMemory}
use Rattle.atpgd.specs.declared.words.Options.{Options}
use Rattle.atpgd.specs.Doors.{DoorSide, LineSides}
use Rattle.atpgd.specs.Opening.{IsReady, ReadyRefused}
use Rattle.atpgd.specs.Hosting.{HasHosted, NotOpened, DaemonRefused, IsDaemon}

-- the passes of a new desk are of this desk
pub fresh_ones : (desk : DeskId) (passes : List PassValue) (numbers : List ℕ) → passes ≡ map (fresh desk) numbers → All (λ (p : PassValue). p.desk.table ≡ desk.table) passes
fresh_ones desk passes numbers are =
    subst (λ (ps : List PassValue). All (λ (p : PassValue). p.desk.table ≡ desk.table) ps) (sym are)
    (All-map (λ (p : PassValue). p.desk.table ≡ desk.table) (fresh desk) numbers (λ k d inside. refl))

-- so are those of workers
pub of_workers : (D : Type 0) (P : PassValue → Type 0) (workers : List (Worker D)) (passes : List PassValue) → map (λ (w : Worker D). w.pass) workers ≡ passes → All P passes → All (λ (w : Worker D). P w.pass) workers
of_workers D P workers passes are all = All-from_map (λ (w : Worker D). w.pass) P workers (subst (λ (ps : List PassValue). All P ps) (sym are) all)

module _ {S H : Type 0} (words : List (List ℕ)) (left : S → Option (List ℕ)) (given ends faults : S → ℕ) (harbour_faults : H → ℕ) (source source_after : S) (harbour harbour_after : H) where
  pub refused_daemon : (status : Status) → ReadyRefused words left given ends faults source source_after status → harbour_after ≡ harbour → DaemonRefused words left given ends faults harbour_faults source source_after harbour harbour_after status
  refused_daemon (BadWords at) why same = (why, same)
  refused_daemon ReadFault why same = (why, same)
  refused_daemon TooLong why same = (why, same)
  refused_daemon (BadNet line fault) why same = (why, same)
  refused_daemon NoMemory why same = why
  refused_daemon Done why same = absurd why
  refused_daemon DoorFault why same = absurd why

  not_opened : (options : Options) (desk : DeskId) (passes : List PassValue) (status : Status) → IsReady words left given ends source source_after options desk passes
      → NotOpened (harbour_faults harbour) (harbour_faults harbour_after) status → DaemonRefused words left given ends faults harbour_faults source source_after harbour harbour_after status
  not_opened options desk passes DoorFault ready rose = (ready.asked.line, (ready.net, ready.read), rose)
  not_opened options desk passes NoMemory ready why = ready.asked.line
  not_opened options desk passes Done ready why = absurd why
  not_opened options desk passes (BadWords at) ready why = absurd why
  not_opened options desk passes ReadFault ready why = absurd why
  not_opened options desk passes TooLong ready why = absurd why
  not_opened options desk passes (BadNet line fault) ready why = absurd why

module _ {S H D L : Type 0} (words : List (List ℕ)) (left : S → Option (List ℕ)) (given ends faults : S → ℕ) (doors : H → Option (List D)) (harbour_faults : H → ℕ) (side : D → DoorSide L) (sides : LineSides L) (source source_after : S) (harbour harbour_after : H) where
  pub served_daemon : (options : Options) (desk : DeskId) (passes : List PassValue) (status : Status) (hosted : Option (Hosted D)) → IsReady words left given ends source source_after options desk passes
      → IfSome hosted (λ (h : Hosted D). HasHosted side sides options desk passes (doors harbour) (doors harbour_after) (harbour_faults harbour) (harbour_faults harbour_after) status h)
      → IfNone hosted (NotOpened (harbour_faults harbour) (harbour_faults harbour_after) status)
      → IsDaemon words left given ends faults doors harbour_faults side sides source source_after harbour harbour_after status hosted
  served_daemon options desk passes status (Some hosted) ready so none = record { options = options; desk = desk; passes = passes; ready = ready; served = so }
  served_daemon options desk passes status None ready some so = not_opened words left given ends faults harbour_faults source source_after harbour harbour_after options desk passes status ready so
