use Rattle.std.proofs.Common.{◌≡◌, refl, sym, ◌∙◌}
use Rattle.session_lines.specs.Readings.{command_reading}
use Rattle.session_lines.specs.ReplyTexts.{text_of}
use Rattle.session_lines.proofs.ServeLine.{text_named, serves_command, none_written, cut_breaks, ends_at, goes_text, goes_past}
use Rattle.session_lines.proofs.lines.serve_command.Goals as goal

pub returns-in_default-clause-err : goal.returns-in_default-clause-err
returns-in_default-clause-err g c =
    let limit = g.P.Planner.limit c.args.planner.now in
    let text = text_of c.args.command c.perform-answer.result in
    none_written g.D.Desks.asked limit c.args.hops (command_reading c.args.command) c.args.desk.now c.perform-answer.new.desk (g.L.Sink.taken c.args.line.now) c.args.written.now text
    (serves_command g.D.Desks.asked limit c.args.hops c.args.command c.perform-answer.result c.args.desk.now c.perform-answer.new.desk text c.perform-answer.ensures.performed refl)

pub returns-in-Err-clause-err : goal.returns-in-Err-clause-err
returns-in-Err-clause-err g c =
    let limit = g.P.Planner.limit c.args.planner.now in
    let text = c.deref.result.now in
    let told : text ≡ text_of c.args.command c.perform-answer.result = c.deref.ensures.value ∙ c.in-Ok.ensures ∙ text_named c.args.command c.by-named.result c.perform-answer.result c.by-named.ensures in
    cut_breaks g.D.Desks.asked limit c.args.hops c.in-Err.end (command_reading c.args.command) c.args.desk.now c.perform-answer.new.desk (g.L.Sink.taken c.args.line.now) (g.L.Sink.taken c.write_text.new.line) c.args.written.now text c.in-Err.ensures.err
    (serves_command g.D.Desks.asked limit c.args.hops c.args.command c.perform-answer.result c.args.desk.now c.perform-answer.new.desk text c.perform-answer.ensures.performed told)

pub returns-in-Some-clause-err : goal.returns-in-Some-clause-err
returns-in-Some-clause-err g c =
    let limit = g.P.Planner.limit c.args.planner.now in
    let text = c.deref.result.now in
    let told : text ≡ text_of c.args.command c.perform-answer.result = c.deref.ensures.value ∙ c.in-Ok.ensures ∙ text_named c.args.command c.by-named.result c.perform-answer.result c.by-named.ensures in
    ends_at g.D.Desks.asked limit c.args.hops c.args.command c.in-Some.end c.args.desk.now c.perform-answer.new.desk (g.L.Sink.taken c.args.line.now) (g.L.Sink.taken c.write_text.new.line) c.args.written.now text
    (sym c.ending-ending.ensures ∙ c.in-Some.is)
    (serves_command g.D.Desks.asked limit c.args.hops c.args.command c.perform-answer.result c.args.desk.now c.perform-answer.new.desk text c.perform-answer.ensures.performed told)
    c.in-Ok-write_text.ensures.ok

pub returns-clause-ok : goal.returns-clause-ok
returns-clause-ok g c =
    let limit = g.P.Planner.limit c.args.planner.now in
    let text = c.deref.result.now in
    let told : text ≡ text_of c.args.command c.perform-answer.result = c.deref.ensures.value ∙ c.in-Ok.ensures ∙ text_named c.args.command c.by-named.result c.perform-answer.result c.by-named.ensures in
    goes_text g.D.Desks.asked limit c.args.hops (command_reading c.args.command) c.args.desk.now c.perform-answer.new.desk (g.L.Sink.taken c.args.line.now) (g.L.Sink.taken c.write_text.new.line) c.args.written.now c.write_text.new.written text
    (goes_past c.args.command (sym c.ending-ending.ensures ∙ c.in-None.is))
    (serves_command g.D.Desks.asked limit c.args.hops c.args.command c.perform-answer.result c.args.desk.now c.perform-answer.new.desk text c.perform-answer.ensures.performed told)
    c.in-Ok-write_text.ensures.ok c.in-Ok-write_text.ensures.counted
