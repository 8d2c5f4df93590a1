-- A line served by one session, with the pass of a worker.
--     IsServed    the session, in which the pass asks the shared desk, and its faults by their causes
use Rattle.std.specs.Prelude.{◌≡◌, ℕ, ◌≤◌}
use Rattle.byte_edges.specs.Counts.{Rose}
use Rattle.desk_turns.specs.Shared.{PassValue, Asked}
use Rattle.session_lines.specs.declared.ends.SessionEnd.{SessionEnd}
use Rattle.session_lines.specs.declared.ends.SessionEnd.TheVariants.{ReadFault, WriteFault}
use Rattle.session_lines.specs.Sessions.{IsSession}
use Rattle.atpgd.specs.Doors.{LineSides}

-- What was read, what was written and what was asked belong together. Each event that was asked and not refused since the log was
-- full is a call more of the pass, with its reply in a history that goes on from what the pass had seen.
pub record IsServed {L : Type 0} (sides : LineSides L) (limit hops : ℕ) (pass pass_after : PassValue) (line line_after : L) (end : SessionEnd) : Type 0 where
  pub session : IsSession Asked sides.left sides.given sides.ends sides.taken limit hops pass pass_after line line_after end
  pub read_failed : end ≡ ReadFault → Rose (sides.read_faults line) (sides.read_faults line_after)
  pub write_failed : (written : ℕ) → end ≡ WriteFault written → Rose (sides.write_faults line) (sides.write_faults line_after)
