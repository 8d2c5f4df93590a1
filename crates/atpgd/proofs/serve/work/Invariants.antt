use Rattle.std.proofs.Common.{◌≡◌, None}
use Rattle.atpgd.specs.Doors.{door_side, line_sides}
use Rattle.atpgd.specs.Serving.{serving}
use Rattle.atpgd.specs.Working.{HasWorked}
use Rattle.atpgd.proofs.serve.work.Given as goal

-- so far each line was served, and the worker goes on
abbrev pub invariant-loop : goal.invariant-loop
invariant-loop g l =
    (goal.iterator-loop g).can_next l.iterator'
    × (goal.iterator-loop g).is_finite l.iterator'
    × HasWorked (serving (line_sides g.D.Conn.Source.left g.D.Conn.Source.given g.D.Conn.Source.ends g.D.Conn.Source.faults g.D.Conn.Sink.taken g.D.Conn.Sink.faults) l.fn.opts)
    (door_side g.D.Door.lines g.D.Door.back g.D.Door.faults g.D.Door.given g.D.Door.shut l.fn.worker.door)
    (door_side g.D.Door.lines g.D.Door.back g.D.Door.faults g.D.Door.given g.D.Door.shut l.worker.door)
    l.fn.worker.pass l.worker.pass None
    × (l.worker.pass.desk.table ≡ l.fn.desk.table)
