use Rattle.std.proofs.Common.{◌≡◌, ℕ, ◌+◌, ◌≤◌, List, length}
use Rattle.session_lines.specs.Ending.{GoesOnFrom}
use Rattle.session_lines.specs.Feeds.{IsParted}
use Rattle.session_lines.specs.Readings.{reading}
use Rattle.session_lines.proofs.sessions.serve_whole.Given as goal

-- the lines so far were served, and the rest follows them
abbrev pub invariant-loop-first : goal.invariant-loop-first
invariant-loop-first g l = record {
  lines : List (List ℕ);
  parted : IsParted l.bytes lines l.rest;
  goes_on : GoesOnFrom g.D.Desks.asked (g.P.Planner.limit l.initial.planner) l.hops (reading (l.initial.place.lines + 1) lines) l.initial.desk l.desk (g.L.Sink.taken l.initial.line) (g.L.Sink.taken l.line) l.initial.place.written l.place.written;
  counted : l.place.lines ≡ l.initial.place.lines + length lines;
  no_fall : g.L.Sink.faults l.initial.line ≤ g.L.Sink.faults l.line;
  aside : g.L.Sink.beside l.line ≡ g.L.Sink.beside l.initial.line;
  limit : g.P.Planner.limit l.planner ≡ g.P.Planner.limit l.initial.planner;
  ready : g.P.Planner.ready l.planner;
}

abbrev pub decreases-loop-first : goal.decreases-loop-first
decreases-loop-first g l = length l.rest
