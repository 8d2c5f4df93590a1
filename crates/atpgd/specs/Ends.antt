-- How a worker ends by the end of a session.
--     end_of    only a `stop` whose `bye` was written ends it
use Rattle.std.specs.Prelude.{true, Option, Some, None}
use Rattle.session_lines.specs.declared.ends.SessionEnd.{SessionEnd}
use Rattle.session_lines.specs.declared.ends.SessionEnd.TheVariants.{Ended}
use Rattle.atpgd.specs.declared.work_end.WorkEnd.{WorkEnd}
use Rattle.atpgd.specs.declared.work_end.WorkEnd.TheVariants.{Stopped}

abbrev pub end_of : SessionEnd → Option WorkEnd
end_of (Ended true) = Some Stopped
end_of _ = None
