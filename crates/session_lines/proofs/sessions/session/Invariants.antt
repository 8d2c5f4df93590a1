use Rattle.std.proofs.Common.{◌≡◌, ℕ, ◌+◌, ◌≤◌, List, length}
use Rattle.byte_edges.specs.Reading.{Gave}
use Rattle.session_lines.specs.Ending.{GoesOnFrom}
use Rattle.session_lines.specs.Feeds.{HasNoFeed, IsParted}
use Rattle.session_lines.specs.Readings.{most_line_bytes, reading}
use Rattle.session_lines.specs.Sessions.{most_bytes}
use Rattle.session_lines.proofs.sessions.session.Given as goal

-- the whole lines of the bytes so far were served, and the rest is pending
abbrev pub invariant-loop-room : goal.invariant-loop-room
invariant-loop-room g l = record {
  bytes : List ℕ;
  lines : List (List ℕ);
  gave : Gave g.L.Source.left g.L.Source.given l.initial.line l.line bytes;
  ends : g.L.Source.ends l.line ≡ g.L.Source.ends l.initial.line;
  taken : length bytes + l.room ≡ most_bytes;
  parted : IsParted bytes lines l.pending.items;
  none : HasNoFeed l.pending.items;
  short : length l.pending.items ≤ most_line_bytes;
  counted : l.place.lines ≡ length lines;
  goes_on : GoesOnFrom g.D.Desks.asked (g.P.Planner.limit l.initial.planner) l.hops (reading 1 lines) l.initial.desk l.desk (g.L.Sink.taken l.initial.line) (g.L.Sink.taken l.line) 0 l.place.written;
  reads_no_fall : g.L.Source.faults l.initial.line ≤ g.L.Source.faults l.line;
  writes_no_fall : g.L.Sink.faults l.initial.line ≤ g.L.Sink.faults l.line;
  limit : g.P.Planner.limit l.planner ≡ g.P.Planner.limit l.initial.planner;
  ready : g.P.Planner.ready l.planner;
}

abbrev pub decreases-loop-room : goal.decreases-loop-room
decreases-loop-room g l = l.room
