use Rattle.std.proofs.Common.{◌≡◌, ◌+◌, ◌≤◌, ◌∷◌, [], length, Ok, Err, None, sym, ap, subst, ◌∙◌, arith}
use Rattle.std.proofs.lemmas.Result.{IfErr-weaker}
use Rattle.session_lines.specs.Commands.{command_of}
use Rattle.session_lines.specs.Ending.{GoesOnFrom}
use Rattle.session_lines.specs.Readings.{most_line_bytes, Reading, asks, stop_at}
use Rattle.session_lines.specs.Serving.{Serves}
use Rattle.session_lines.specs.Sessions.{BreaksOff}
use Rattle.session_lines.proofs.ServeLine.{goes_nothing, line_says, cut_breaks, serves_fault}
use Rattle.session_lines.proofs.lines.serve_line.Goals as goal

pub returns-in-Ok-None-clause-ok : goal.returns-in-Ok-None-clause-ok
returns-in-Ok-None-clause-ok g c =
    let limit = g.P.Planner.limit c.args.planner.now in
    let number = c.args.place.now.lines + 1 in
    let written = c.args.place.now.written in
    let told = g.L.Sink.taken c.args.line.now in
    let said : Ok None ≡ command_of c.args.bytes.now = sym (c.in-Ok-None.is ∙ ap Ok c.in-Ok-None.field-0-is) ∙ c.read_command.ensures in
    let short : length c.args.bytes.now ≤ most_line_bytes = omega arith in
    subst (λ r. GoesOnFrom g.D.Desks.asked limit c.args.hops r c.args.desk.now c.args.desk.now told told written written)
    (sym (line_says number c.args.bytes.now (Ok None) short said))
    (goes_nothing g.D.Desks.asked limit c.args.hops c.args.desk.now told written)

pub returns-in-Err-clause-err : goal.returns-in-Err-clause-err
returns-in-Err-clause-err g c =
    let limit = g.P.Planner.limit c.args.planner.now in
    let number = c.args.place.now.lines + 1 in
    let written = c.args.place.now.written in
    let desk = c.args.desk.now in
    let had = g.L.Sink.taken c.args.line.now in
    let has = g.L.Sink.taken c.write_text.new.line in
    let fault = c.in-Err.fault in
    let text = c.fault_line.result.now in
    let said : Err fault ≡ command_of c.args.bytes.now = sym c.in-Err.is ∙ c.read_command.ensures in
    let short : length c.args.bytes.now ≤ most_line_bytes = omega arith in
    let lines : Reading = record { said = asks (Err fault); stop = stop_at (Err fault) } in
    let serves : Serves g.D.Desks.asked limit c.args.hops (Err fault ∷ []) desk desk text =
    subst (λ t. Serves g.D.Desks.asked limit c.args.hops (Err fault ∷ []) desk desk t) (sym c.fault_line.ensures) (serves_fault g.D.Desks.asked limit c.args.hops fault desk) in
    IfErr-weaker c.write_text.result _ _ (λ end cut.
    subst (λ r. BreaksOff g.D.Desks.asked limit c.args.hops r written desk desk had has end) (sym (line_says number c.args.bytes.now (Err fault) short said))
    (cut_breaks g.D.Desks.asked limit c.args.hops end lines desk desk had has written text cut serves))
    c.write_text.ensures.err
