use Rattle.std.proofs.Common.{◌≡◌, ℕ, ◌+◌, ◌^◌, ◌<◌, true, false, List, [], ◌++◌, length, drop, refl, sym, ap, ◌∙◌, subst, arith, length-append}
use Rattle.std.specs.Prelude.{IfSome}
use Rattle.byte_edges.specs.Counts.{raised}
use Rattle.byte_edges.specs.Reading.{Gave, GaveMore}
use Rattle.byte_edges.proofs.Given.{gave_none}
use Rattle.session_lines.specs.Ending.{GoesOnFrom, IsLast, ServesFront}
use Rattle.session_lines.specs.Feeds.{HasNoFeed, IsParted}
use Rattle.session_lines.specs.Readings.{reading, line_reading}
use Rattle.session_lines.specs.Sessions.{BreaksOff, lines_for}
use Rattle.session_lines.proofs.Feeding.{parted_none, parted_more, parted_read, rest_left, few_lines}
use Rattle.session_lines.proofs.ServeLine.{goes_nothing}
use Rattle.session_lines.proofs.Sides.{taken_stays, left_stays, given_stays, ends_stay, source_faults_stay, sink_faults_stay, gave_kept, gave_then, taken_on, taken_end, empty_after, none_more}
use Rattle.session_lines.proofs.Whole.{goes_more, breaks_rest, breaks_between, ends_last, ends_so, serves_whole}
use Rattle.session_lines.proofs.sessions.session.Goals as goal

no_bytes : HasNoFeed []
no_bytes = λ k d h. absurd (omega arith)

pub loop-room-init : goal.loop-room-init
loop-room-init g c =
    let empty : [] ≡ c.new-pending.result.items = sym c.new-pending.ensures.items in
    record {
      bytes = [];
      lines = [];
      gave = gave_none g.L.Source.left g.L.Source.given c.args.line.now;
      ends = refl;
      taken = refl;
      parted = subst (λ p. IsParted [] [] p) empty (parted_none []);
      none = subst (λ p. HasNoFeed p) empty no_bytes;
      short = omega (arith, ap (λ (p : List ℕ). length p) empty);
      counted = refl;
      goes_on = goes_nothing g.D.Desks.asked (g.P.Planner.limit c.args.planner.now) c.args.hops c.args.desk.now (g.L.Sink.taken c.args.line.now) 0;
      reads_no_fall = omega arith;
      writes_no_fall = omega arith;
      limit = refl;
      ready = c.requires;
    }

pub serve_last-requires-clause-few : goal.serve_last-requires-clause-few
serve_last-requires-clause-few g c =
    let i = c.loop-room.invariant in
    let few : c.loop-room.place.lines < 2 ^ 63 = omega (arith, few_lines i.bytes i.lines c.loop-room.pending.items i.parted, i.counted, i.taken) in
    few

pub serve_whole-requires-clause-few : goal.serve_whole-requires-clause-few
serve_whole-requires-clause-few g c =
    let i = c.loop-room.invariant in
    let more : GaveMore g.L.Source.left g.L.Source.given c.loop-room.line c.read_more.new.source c.loop-room.pending.items c.read_more.new.pending.items c.in-Ok.n = c.in-Ok.ensures.more in
    let few : c.loop-room.place.lines + length c.deref-in-loop-room.result.now < 2 ^ 63 =
    omega (arith, few_lines i.bytes i.lines c.loop-room.pending.items i.parted, i.counted, i.taken, i.short, ap (λ (p : List ℕ). length p) c.deref-in-loop-room.ensures.value, ap (λ (p : List ℕ). length p) more.behind, length-append c.loop-room.pending.items more.piece, more.number, c.in-Ok.ensures.within.1) in
    few

-- what was served so far, seen after a read
pub returns-in-Err-Failed-clause-session : goal.returns-in-Err-Failed-clause-session
returns-in-Err-Failed-clause-session g c =
    let i = c.loop-room.invariant in
    let limit = g.P.Planner.limit c.args.planner.now in
    let had = g.L.Sink.taken c.args.line.now in
    let same = taken_stays g.L.Source.beside g.L.Sink.taken g.L.Sink.faults g.met.L.Line.read_keeps c.loop-room.line c.read_more.new.source c.read_more.ensures.aside in
    let goes : GoesOnFrom g.D.Desks.asked limit c.args.hops (reading 1 i.lines) c.args.desk.now c.loop-room.desk had (g.L.Sink.taken c.read_more.new.source) 0 c.loop-room.place.written =
    subst (λ t. GoesOnFrom g.D.Desks.asked limit c.args.hops (reading 1 i.lines) c.args.desk.now c.loop-room.desk had t 0 c.loop-room.place.written) (sym same) i.goes_on in
    record {
      bytes = i.bytes;
      at_end = false;
      source = taken_on g.L.Source.left g.L.Source.given g.L.Source.ends c.args.line.now c.read_more.new.source i.bytes
          (gave_kept g.L.Source.left g.L.Source.given c.args.line.now c.loop-room.line c.read_more.new.source i.bytes i.gave c.in-Err-Failed.ensures.left c.in-Err-Failed.ensures.none_given)
          (omega (arith, i.taken)) (c.in-Err-Failed.ensures.no_end ∙ i.ends);
      so = serves_whole g.D.Desks.asked limit c.args.hops i.bytes i.lines c.loop-room.pending.items c.args.desk.now c.loop-room.desk had (g.L.Sink.taken c.read_more.new.source) c.loop-room.place.written i.parted i.none i.short goes;
    }

pub returns-in-Err-NoMemory-clause-session : goal.returns-in-Err-NoMemory-clause-session
returns-in-Err-NoMemory-clause-session g c =
    let i = c.loop-room.invariant in
    let limit = g.P.Planner.limit c.args.planner.now in
    let had = g.L.Sink.taken c.args.line.now in
    let same = taken_stays g.L.Source.beside g.L.Sink.taken g.L.Sink.faults g.met.L.Line.read_keeps c.loop-room.line c.read_more.new.source c.read_more.ensures.aside in
    let goes : GoesOnFrom g.D.Desks.asked limit c.args.hops (reading 1 i.lines) c.args.desk.now c.loop-room.desk had (g.L.Sink.taken c.read_more.new.source) 0 c.loop-room.place.written =
    subst (λ t. GoesOnFrom g.D.Desks.asked limit c.args.hops (reading 1 i.lines) c.args.desk.now c.loop-room.desk had t 0 c.loop-room.place.written) (sym same) i.goes_on in
    record {
      bytes = i.bytes;
      at_end = false;
      source = taken_on g.L.Source.left g.L.Source.given g.L.Source.ends c.args.line.now c.read_more.new.source i.bytes
          (gave_kept g.L.Source.left g.L.Source.given c.args.line.now c.loop-room.line c.read_more.new.source i.bytes i.gave c.in-Err-NoMemory.ensures.left c.in-Err-NoMemory.ensures.none_given)
          (omega (arith, i.taken)) (c.in-Err-NoMemory.ensures.no_end ∙ i.ends);
      so = breaks_between g.D.Desks.asked limit c.args.hops i.bytes i.lines c.loop-room.pending.items c.args.desk.now c.loop-room.desk had (g.L.Sink.taken c.read_more.new.source) c.loop-room.place.written i.parted i.none goes;
    }

pub returns-in-Ok-eq0-clause-session : goal.returns-in-Ok-eq0-clause-session
returns-in-Ok-eq0-clause-session g c =
    let i = c.loop-room.invariant in
    let limit = g.P.Planner.limit c.args.planner.now in
    let had = g.L.Sink.taken c.args.line.now in
    let read = c.read_more.new.source in
    let last = c.serve_last.new.line in
    let n = c.in-Ok-eq0.field-0 in
    let zero : n ≡ 0 = c.in-Ok-eq0.field-0-test in
    let same = taken_stays g.L.Source.beside g.L.Sink.taken g.L.Sink.faults g.met.L.Line.read_keeps c.loop-room.line read c.read_more.ensures.aside in
    let goes : GoesOnFrom g.D.Desks.asked limit c.args.hops (reading 1 i.lines) c.args.desk.now c.loop-room.desk had (g.L.Sink.taken read) 0 c.loop-room.place.written =
    subst (λ t. GoesOnFrom g.D.Desks.asked limit c.args.hops (reading 1 i.lines) c.args.desk.now c.loop-room.desk had t 0 c.loop-room.place.written) (sym same) i.goes_on in
    let more : GaveMore g.L.Source.left g.L.Source.given c.loop-room.line read c.loop-room.pending.items c.read_more.new.pending.items n = c.in-Ok-eq0.ensures.more in
    let pending : c.deref.result.now ≡ c.loop-room.pending.items = c.deref.ensures.value ∙ none_more g.L.Source.left g.L.Source.given g.L.Source.ends c.loop-room.line read c.loop-room.pending.items c.read_more.new.pending.items n more zero in
    let bytes : List ℕ = i.bytes ++ more.piece in
    let parted : IsParted bytes i.lines c.deref.result.now = subst (λ p. IsParted bytes i.lines p) (sym c.deref.ensures.value)
    (subst (λ p. IsParted bytes i.lines p) (sym more.behind) (parted_read i.bytes i.lines c.loop-room.pending.items more.piece i.parted)) in
    let none : HasNoFeed c.deref.result.now = subst (λ p. HasNoFeed p) (sym pending) i.none in
    let left = left_stays g.L.Sink.beside g.L.Source.left g.L.Source.faults g.L.Source.given g.L.Source.ends g.met.L.Line.write_keeps read last c.serve_last.ensures.aside in
    let given = given_stays g.L.Sink.beside g.L.Source.left g.L.Source.faults g.L.Source.given g.L.Source.ends g.met.L.Line.write_keeps read last c.serve_last.ensures.aside in
    let ends = ends_stay g.L.Sink.beside g.L.Source.left g.L.Source.faults g.L.Source.given g.L.Source.ends g.met.L.Line.write_keeps read last c.serve_last.ensures.aside in
    let gave : Gave g.L.Source.left g.L.Source.given c.args.line.now last bytes = gave_kept g.L.Source.left g.L.Source.given c.args.line.now read last bytes
    (gave_then g.L.Source.left g.L.Source.given c.args.line.now c.loop-room.line read i.bytes c.loop-room.pending.items c.read_more.new.pending.items n i.gave more) left given in
    let so : IsLast g.D.Desks.asked limit c.args.hops (line_reading (c.loop-room.place.lines + 1) c.deref.result.now) c.loop-room.place.written c.loop-room.desk c.serve_last.new.desk (g.L.Sink.taken read) (g.L.Sink.taken last) c.serve_last.result =
    subst (λ l. IsLast g.D.Desks.asked l c.args.hops (line_reading (c.loop-room.place.lines + 1) c.deref.result.now) c.loop-room.place.written c.loop-room.desk c.serve_last.new.desk (g.L.Sink.taken read) (g.L.Sink.taken last) c.serve_last.result) i.limit c.serve_last.ensures.so in
    record {
      bytes = bytes;
      at_end = true;
      source = taken_end g.L.Source.left g.L.Source.given g.L.Source.ends c.args.line.now last bytes gave
          (omega (arith, i.taken, c.loop-room-test.true, length-append i.bytes more.piece, more.number, zero))
          (ends ∙ c.in-Ok-eq0.ensures.ended zero ∙ ap (λ (e : ℕ). raised e 1) i.ends)
          (subst (λ t. IfSome t (λ told. told ≡ [])) (sym left) (empty_after g.L.Source.left g.L.Source.given g.L.Source.ends c.loop-room.line read c.loop-room.pending.items c.read_more.new.pending.items n (c.in-Ok-eq0.ensures.end zero) more));
      so = ends_last g.D.Desks.asked limit c.args.hops c.loop-room.place.lines c.serve_last.result bytes i.lines c.deref.result.now c.args.desk.now c.loop-room.desk c.serve_last.new.desk had (g.L.Sink.taken read) (g.L.Sink.taken last) c.loop-room.place.written i.counted parted none goes so;
    }

pub loop-room-preserved : goal.loop-room-preserved
loop-room-preserved g c =
    let i = c.loop-room.invariant in
    let limit = g.P.Planner.limit c.args.planner.now in
    let had = g.L.Sink.taken c.args.line.now in
    let read = c.read_more.new.source in
    let last = c.serve_whole.new.line in
    let n = c.in-Ok.n in
    let positive : 0 < n = omega arith in
    let same = taken_stays g.L.Source.beside g.L.Sink.taken g.L.Sink.faults g.met.L.Line.read_keeps c.loop-room.line read c.read_more.ensures.aside in
    let faults = sink_faults_stay g.L.Source.beside g.L.Sink.taken g.L.Sink.faults g.met.L.Line.read_keeps c.loop-room.line read c.read_more.ensures.aside in
    let goes : GoesOnFrom g.D.Desks.asked limit c.args.hops (reading 1 i.lines) c.args.desk.now c.loop-room.desk had (g.L.Sink.taken read) 0 c.loop-room.place.written =
    subst (λ t. GoesOnFrom g.D.Desks.asked limit c.args.hops (reading 1 i.lines) c.args.desk.now c.loop-room.desk had t 0 c.loop-room.place.written) (sym same) i.goes_on in
    let more : GaveMore g.L.Source.left g.L.Source.given c.loop-room.line read c.loop-room.pending.items c.read_more.new.pending.items n = c.in-Ok.ensures.more in
    let bytes : List ℕ = i.bytes ++ more.piece in
    let parted : IsParted bytes i.lines c.deref-in-loop-room.result.now = subst (λ p. IsParted bytes i.lines p) (sym c.deref-in-loop-room.ensures.value)
    (subst (λ p. IsParted bytes i.lines p) (sym more.behind) (parted_read i.bytes i.lines c.loop-room.pending.items more.piece i.parted)) in
    let front : ServesFront g.D.Desks.asked limit c.args.hops c.deref-in-loop-room.result.now c.loop-room.place.lines c.loop-room.desk c.serve_whole.new.desk (g.L.Sink.taken read) (g.L.Sink.taken last) c.loop-room.place.written c.serve_whole.new.place.written c.in-Ok-serve_whole.served c.serve_whole.new.place.lines =
    subst (λ l. ServesFront g.D.Desks.asked l c.args.hops c.deref-in-loop-room.result.now c.loop-room.place.lines c.loop-room.desk c.serve_whole.new.desk (g.L.Sink.taken read) (g.L.Sink.taken last) c.loop-room.place.written c.serve_whole.new.place.written c.in-Ok-serve_whole.served c.serve_whole.new.place.lines) i.limit c.in-Ok-serve_whole.ensures.ok in
    let left = left_stays g.L.Sink.beside g.L.Source.left g.L.Source.faults g.L.Source.given g.L.Source.ends g.met.L.Line.write_keeps read last c.serve_whole.ensures.aside in
    let given = given_stays g.L.Sink.beside g.L.Source.left g.L.Source.faults g.L.Source.given g.L.Source.ends g.met.L.Line.write_keeps read last c.serve_whole.ensures.aside in
    let ends = ends_stay g.L.Sink.beside g.L.Source.left g.L.Source.faults g.L.Source.given g.L.Source.ends g.met.L.Line.write_keeps read last c.serve_whole.ensures.aside in
    let source_faults = source_faults_stay g.L.Sink.beside g.L.Source.left g.L.Source.faults g.L.Source.given g.L.Source.ends g.met.L.Line.write_keeps read last c.serve_whole.ensures.aside in
    let rest : c.remove_front.new.pending.items ≡ front.rest =
    c.remove_front.ensures ∙ ap (λ (p : List ℕ). drop c.in-Ok-serve_whole.served p) (sym c.deref-in-loop-room.ensures.value) ∙ rest_left c.deref-in-loop-room.result.now front.lines front.rest c.in-Ok-serve_whole.served front.parted front.served_are in
    record {
      bytes = bytes;
      lines = i.lines ++ front.lines;
      gave = gave_kept g.L.Source.left g.L.Source.given c.args.line.now read last bytes
          (gave_then g.L.Source.left g.L.Source.given c.args.line.now c.loop-room.line read i.bytes c.loop-room.pending.items c.read_more.new.pending.items n i.gave more) left given;
      ends = ends ∙ c.in-Ok.ensures.not_ended positive ∙ i.ends;
      taken = omega (arith, i.taken, length-append i.bytes more.piece, more.number, c.in-Ok.ensures.within.0);
      parted = subst (λ p. IsParted bytes (i.lines ++ front.lines) p) (sym rest) (parted_more bytes i.lines front.lines c.deref-in-loop-room.result.now front.rest parted front.parted);
      none = subst (λ p. HasNoFeed p) (sym rest) front.unended;
      short = omega (arith, ap (λ (p : List ℕ). length p) rest, front.short);
      counted = omega (arith, front.counted, i.counted, length-append i.lines front.lines);
      goes_on = goes_more g.D.Desks.asked limit c.args.hops 0 c.loop-room.place.lines i.lines front.lines c.args.desk.now c.loop-room.desk c.serve_whole.new.desk had (g.L.Sink.taken read) (g.L.Sink.taken last) 0 c.loop-room.place.written c.serve_whole.new.place.written (omega (arith, i.counted)) goes front.goes_on;
      reads_no_fall = omega (arith, i.reads_no_fall, c.read_more.ensures.no_fall, source_faults);
      writes_no_fall = omega (arith, i.writes_no_fall, faults, c.serve_whole.ensures.no_fall);
      limit = c.serve_whole.ensures.limit ∙ i.limit;
      ready = c.serve_whole.ensures.ready;
    }

pub returns-in-Err-clause-session : goal.returns-in-Err-clause-session
returns-in-Err-clause-session g c =
    let i = c.loop-room.invariant in
    let limit = g.P.Planner.limit c.args.planner.now in
    let had = g.L.Sink.taken c.args.line.now in
    let read = c.read_more.new.source in
    let last = c.serve_whole.new.line in
    let n = c.in-Ok.n in
    let positive : 0 < n = omega arith in
    let same = taken_stays g.L.Source.beside g.L.Sink.taken g.L.Sink.faults g.met.L.Line.read_keeps c.loop-room.line read c.read_more.ensures.aside in
    let goes : GoesOnFrom g.D.Desks.asked limit c.args.hops (reading 1 i.lines) c.args.desk.now c.loop-room.desk had (g.L.Sink.taken read) 0 c.loop-room.place.written =
    subst (λ t. GoesOnFrom g.D.Desks.asked limit c.args.hops (reading 1 i.lines) c.args.desk.now c.loop-room.desk had t 0 c.loop-room.place.written) (sym same) i.goes_on in
    let more : GaveMore g.L.Source.left g.L.Source.given c.loop-room.line read c.loop-room.pending.items c.read_more.new.pending.items n = c.in-Ok.ensures.more in
    let bytes : List ℕ = i.bytes ++ more.piece in
    let parted : IsParted bytes i.lines c.deref-in-loop-room.result.now = subst (λ p. IsParted bytes i.lines p) (sym c.deref-in-loop-room.ensures.value)
    (subst (λ p. IsParted bytes i.lines p) (sym more.behind) (parted_read i.bytes i.lines c.loop-room.pending.items more.piece i.parted)) in
    let left = left_stays g.L.Sink.beside g.L.Source.left g.L.Source.faults g.L.Source.given g.L.Source.ends g.met.L.Line.write_keeps read last c.serve_whole.ensures.aside in
    let given = given_stays g.L.Sink.beside g.L.Source.left g.L.Source.faults g.L.Source.given g.L.Source.ends g.met.L.Line.write_keeps read last c.serve_whole.ensures.aside in
    let ends = ends_stay g.L.Sink.beside g.L.Source.left g.L.Source.faults g.L.Source.given g.L.Source.ends g.met.L.Line.write_keeps read last c.serve_whole.ensures.aside in
    let off : BreaksOff g.D.Desks.asked limit c.args.hops (reading (c.loop-room.place.lines + 1) (lines_for c.in-Err.end false c.deref-in-loop-room.result.now)) c.loop-room.place.written c.loop-room.desk c.serve_whole.new.desk (g.L.Sink.taken read) (g.L.Sink.taken last) c.in-Err.end =
    subst (λ l. BreaksOff g.D.Desks.asked l c.args.hops (reading (c.loop-room.place.lines + 1) (lines_for c.in-Err.end false c.deref-in-loop-room.result.now)) c.loop-room.place.written c.loop-room.desk c.serve_whole.new.desk (g.L.Sink.taken read) (g.L.Sink.taken last) c.in-Err.end) i.limit c.in-Err.ensures.err in
    record {
      bytes = bytes;
      at_end = false;
      source = taken_on g.L.Source.left g.L.Source.given g.L.Source.ends c.args.line.now last bytes
          (gave_kept g.L.Source.left g.L.Source.given c.args.line.now read last bytes
          (gave_then g.L.Source.left g.L.Source.given c.args.line.now c.loop-room.line read i.bytes c.loop-room.pending.items c.read_more.new.pending.items n i.gave more) left given)
          (omega (arith, i.taken, length-append i.bytes more.piece, more.number, c.in-Ok.ensures.within.0))
          (ends ∙ c.in-Ok.ensures.not_ended positive ∙ i.ends);
      so = ends_so g.D.Desks.asked limit c.args.hops c.in-Err.end bytes false c.args.desk.now c.serve_whole.new.desk had (g.L.Sink.taken last)
          (breaks_rest g.D.Desks.asked limit c.args.hops 0 c.loop-room.place.lines bytes i.lines c.deref-in-loop-room.result.now c.args.desk.now c.loop-room.desk c.serve_whole.new.desk had (g.L.Sink.taken read) (g.L.Sink.taken last) 0 c.loop-room.place.written c.in-Err.end (omega (arith, i.counted)) parted goes off);
    }

pub returns-clause-session : goal.returns-clause-session
returns-clause-session g c =
    let i = c.loop-room.invariant in
    let limit = g.P.Planner.limit c.args.planner.now in
    record {
      bytes = i.bytes;
      at_end = false;
      source = taken_on g.L.Source.left g.L.Source.given g.L.Source.ends c.args.line.now c.loop-room.line i.bytes i.gave (omega (arith, i.taken)) i.ends;
      so = (serves_whole g.D.Desks.asked limit c.args.hops i.bytes i.lines c.loop-room.pending.items c.args.desk.now c.loop-room.desk (g.L.Sink.taken c.args.line.now) (g.L.Sink.taken c.loop-room.line) c.loop-room.place.written i.parted i.none i.short i.goes_on, omega (arith, i.taken, c.loop-room-test.false));
    }
