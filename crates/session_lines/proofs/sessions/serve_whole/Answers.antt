use Rattle.std.proofs.Common.{◌≡◌, ◌+◌, [], ◌∷◌, ◌++◌, refl, ◌∙◌, subst, arith, length-append}
use Rattle.session_lines.specs.Ending.{GoesOnFrom}
use Rattle.session_lines.specs.Feeds.{HasNoFeed}
use Rattle.session_lines.specs.Readings.{line_reading}
use Rattle.session_lines.specs.Sessions.{BreaksOff}
use Rattle.session_lines.proofs.Feeding.{parted_none, parted_more, parted_line, few_lines}
use Rattle.session_lines.proofs.ServeLine.{goes_nothing}
use Rattle.session_lines.proofs.Whole.{goes_line, breaks_line, breaks_long}
use Rattle.session_lines.proofs.sessions.serve_whole.Goals as goal

pub loop-first-init : goal.loop-first-init
loop-first-init g c = record {
  lines = [];
  parted = parted_none c.args.bytes.now;
  goes_on = goes_nothing g.D.Desks.asked (g.P.Planner.limit c.args.planner.now) c.args.hops c.args.desk.now (g.L.Sink.taken c.args.line.now) c.args.place.now.written;
  counted = omega arith;
  no_fall = omega arith;
  aside = refl;
  limit = refl;
  ready = c.requires.ready;
}

pub serve_line-requires-clause-few : goal.serve_line-requires-clause-few
serve_line-requires-clause-few g c =
    let i = c.loop-first.invariant in
    omega (arith, few_lines c.args.bytes.now i.lines c.loop-first.rest.now i.parted, i.counted, c.requires.few)

pub loop-first-preserved : goal.loop-first-preserved
loop-first-preserved g c =
    let i = c.loop-first.invariant in
    let first = c.in-Some.first.now in
    let more = c.in-Some.more.now in
    let limit = g.P.Planner.limit c.args.planner.now in
    let is : c.loop-first.rest.now ≡ first ++ 10 ∷ more = c.in-Some.ensures.some.0 in
    let none : HasNoFeed first = c.in-Some.ensures.some.1 in
    let second : GoesOnFrom g.D.Desks.asked limit c.args.hops (line_reading (c.loop-first.place.lines + 1) first) c.loop-first.desk c.serve_line.new.desk (g.L.Sink.taken c.loop-first.line) (g.L.Sink.taken c.serve_line.new.line) c.loop-first.place.written c.serve_line.new.place.written =
    subst (λ l. GoesOnFrom g.D.Desks.asked l c.args.hops (line_reading (c.loop-first.place.lines + 1) first) c.loop-first.desk c.serve_line.new.desk (g.L.Sink.taken c.loop-first.line) (g.L.Sink.taken c.serve_line.new.line) c.loop-first.place.written c.serve_line.new.place.written) i.limit c.in-Ok.ensures.ok in
    record {
      lines = i.lines ++ first ∷ [];
      parted = parted_more c.args.bytes.now i.lines (first ∷ []) c.loop-first.rest.now more i.parted (parted_line c.loop-first.rest.now first more is none);
      goes_on = goes_line g.D.Desks.asked limit c.args.hops c.args.place.now.lines c.loop-first.place.lines i.lines first c.args.desk.now c.loop-first.desk c.serve_line.new.desk (g.L.Sink.taken c.args.line.now) (g.L.Sink.taken c.loop-first.line) (g.L.Sink.taken c.serve_line.new.line) c.args.place.now.written c.loop-first.place.written c.serve_line.new.place.written i.counted i.goes_on second;
      counted = omega (arith, c.in-Ok.ensures.lines, i.counted, length-append i.lines (first ∷ []));
      no_fall = omega (arith, i.no_fall, c.serve_line.ensures.no_fall);
      aside = c.serve_line.ensures.aside ∙ i.aside;
      limit = c.serve_line.ensures.limit ∙ i.limit;
      ready = c.serve_line.ensures.ready;
    }

pub returns-in-Err-clause-err : goal.returns-in-Err-clause-err
returns-in-Err-clause-err g c =
    let i = c.loop-first.invariant in
    let first = c.in-Some.first.now in
    let more = c.in-Some.more.now in
    let limit = g.P.Planner.limit c.args.planner.now in
    let is : c.loop-first.rest.now ≡ first ++ 10 ∷ more = c.in-Some.ensures.some.0 in
    let none : HasNoFeed first = c.in-Some.ensures.some.1 in
    breaks_line g.D.Desks.asked limit c.args.hops c.args.place.now.lines c.loop-first.place.lines c.args.bytes.now i.lines first more c.args.desk.now c.loop-first.desk c.serve_line.new.desk (g.L.Sink.taken c.args.line.now) (g.L.Sink.taken c.loop-first.line) (g.L.Sink.taken c.serve_line.new.line) c.args.place.now.written c.loop-first.place.written c.in-Err.end i.counted
    (parted_more c.args.bytes.now i.lines (first ∷ []) c.loop-first.rest.now more i.parted (parted_line c.loop-first.rest.now first more is none))
    i.goes_on
    (subst (λ l. BreaksOff g.D.Desks.asked l c.args.hops (line_reading (c.loop-first.place.lines + 1) first) c.loop-first.place.written c.loop-first.desk c.serve_line.new.desk (g.L.Sink.taken c.loop-first.line) (g.L.Sink.taken c.serve_line.new.line) c.in-Err.end) i.limit c.in-Err.ensures.err)

pub overflow_add-result : goal.overflow_add-result
overflow_add-result g c =
    let i = c.loop-first.invariant in
    omega (arith, few_lines c.args.bytes.now i.lines c.loop-first.rest.now i.parted, i.counted, c.requires.few)

pub returns-then-rest-gt-MOST_LINE_BYTES-clause-err : goal.returns-then-rest-gt-MOST_LINE_BYTES-clause-err
returns-then-rest-gt-MOST_LINE_BYTES-clause-err g c =
    let i = c.loop-first.invariant in
    breaks_long g.D.Desks.asked (g.P.Planner.limit c.args.planner.now) c.args.hops c.args.place.now.lines c.loop-first.place.lines c.args.bytes.now i.lines c.loop-first.rest.now c.args.desk.now c.loop-first.desk (g.L.Sink.taken c.args.line.now) (g.L.Sink.taken c.loop-first.line) c.args.place.now.written c.loop-first.place.written i.counted i.parted c.in_default.ensures.none c.if-rest-gt-MOST_LINE_BYTES.true i.goes_on
