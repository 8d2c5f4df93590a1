-- The workers of a server.
--     serving        what one session does, for the limits of the options
--     IsWorked       what a worker was and what it is after its work
use Rattle.std.specs.Prelude.{ℕ}
use Rattle.desk_turns.specs.Shared.{PassValue}
use Rattle.session_lines.specs.declared.ends.SessionEnd.{SessionEnd}
use Rattle.atpgd.specs.declared.words.Options.{Options}
use Rattle.atpgd.specs.declared.serve.Worker.{Worker}
use Rattle.atpgd.specs.Doors.{DoorSide, LineSides}
use Rattle.atpgd.specs.Served.{IsServed}
use Rattle.atpgd.specs.Working.{HasWorked}

abbrev pub serving : {L : Type 0} → LineSides L → Options → PassValue → PassValue → L → L → SessionEnd → Type 0
serving sides options pass pass_after line line_after end = IsServed sides options.entries options.hops pass pass_after line line_after end

abbrev pub IsWorked : {D L : Type 0} → (D → DoorSide L) → LineSides L → Options → Worker D → Worker D → Type 0
IsWorked side sides options before after = HasWorked (serving sides options) (side before.door) (side after.door) before.pass after.pass after.ended
