use Rattle.std.proofs.Common.{◌≡◌, Option, Some, None, refl, sym, subst}
use Rattle.atpgd.specs.declared.work_end.WorkEnd.{WorkEnd}
use Rattle.atpgd.specs.Doors.{door_side, line_sides}
use Rattle.atpgd.specs.Serving.{serving}
use Rattle.atpgd.specs.Working.{HasWorked}
use Rattle.atpgd.proofs.Works.{worked_one, worked_shut, worked_fault, worked_no_memory}
use Rattle.atpgd.proofs.serve.serve_next.Goals as goal

pub returns-in-Ok-Some-clause-worked : goal.returns-in-Ok-Some-clause-worked
returns-in-Ok-Some-clause-worked g c =
    let serves = serving (line_sides g.D.Conn.Source.left g.D.Conn.Source.given g.D.Conn.Source.ends g.D.Conn.Source.faults g.D.Conn.Sink.taken g.D.Conn.Sink.faults) c.args.opts.now in
    let before = door_side g.D.Door.lines g.D.Door.back g.D.Door.faults g.D.Door.given g.D.Door.shut c.args.door.now in
    let between = door_side g.D.Door.lines g.D.Door.back g.D.Door.faults g.D.Door.given g.D.Door.shut c.accept.new.self in
    let after = door_side g.D.Door.lines g.D.Door.back g.D.Door.faults g.D.Door.given g.D.Door.shut c.done.new.self in
    let ok = c.in-Ok-Some.ensures in
    let first = rw c.in-Ok-Some.field-0-is at ok.first in
    let given = rw c.in-Ok-Some.field-0-is at ok.given in
    let shut = rw c.in-Ok-Some.field-0-is at ok.shut in
    let worked =
    worked_one serves before between after c.args.pass.now c.serve_one-end.new.pass _ _ c.serve_one-end.result c.serve_one-end.ensures.served first c.done.ensures.lines ok.back c.done.ensures.back given c.done.ensures.given (ok.steady, shut) (c.done.ensures.faults, c.done.ensures.shut)
    in
    subst (λ (e : Option WorkEnd). HasWorked serves before after c.args.pass.now c.serve_one-end.new.pass e) (sym c.end_of.ensures) worked

pub returns-in-Ok-None-clause-worked : goal.returns-in-Ok-None-clause-worked
returns-in-Ok-None-clause-worked g c =
    let ok = c.in-Ok-None.ensures in
    let first = rw c.in-Ok-None.field-0-is at ok.first in
    let given = rw c.in-Ok-None.field-0-is at ok.given in
    let shut = rw c.in-Ok-None.field-0-is at ok.shut in
    worked_shut _ _ _ _ first ok.back given ok.steady shut

pub returns-in-Err-Failed-clause-worked : goal.returns-in-Err-Failed-clause-worked
returns-in-Err-Failed-clause-worked g c =
    let err = c.in-Err-Failed.ensures in
    let failed = rw c.in-Err-Failed.field-0-is at err.failed in
    worked_fault _ _ _ _ err.kept err.back err.none_given (failed refl) err.not_shut

pub returns-in-Err-NoMemory-clause-worked : goal.returns-in-Err-NoMemory-clause-worked
returns-in-Err-NoMemory-clause-worked g c =
    let err = c.in-Err-NoMemory.ensures in
    let steady = rw c.in-Err-NoMemory.field-0-is at err.steady_memory in
    worked_no_memory _ _ _ _ err.kept err.back err.none_given (steady refl) err.not_shut
