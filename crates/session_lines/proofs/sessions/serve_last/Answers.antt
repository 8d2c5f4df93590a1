use Rattle.std.proofs.Common.{refl}
use Rattle.session_lines.specs.Ending.{GoesTo}
use Rattle.session_lines.proofs.sessions.serve_last.Goals as goal

pub returns-in-Ok-clause-so : goal.returns-in-Ok-clause-so
returns-in-Ok-clause-so g c = GoesTo c.serve_line.new.place.written c.in-Ok.ensures.ok refl
