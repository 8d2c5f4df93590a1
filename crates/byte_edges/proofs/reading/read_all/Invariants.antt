use Rattle.std.proofs.Common.{◌≡◌, ◌≤◌, length, ◌-◌}
use Rattle.byte_edges.specs.Reading.{Gave}
use Rattle.byte_edges.proofs.reading.read_all.Given as goal

abbrev pub invariant-loop-piece : goal.invariant-loop-piece
invariant-loop-piece g l = record {
  within : length l.bytes.items ≤ l.limit;
  gave : Gave g.S.Source.left g.S.Source.given l.initial.source l.source l.bytes.items;
  not_ended : g.S.Source.ends l.source ≡ g.S.Source.ends l.initial.source;
  steady : g.S.Source.faults l.source ≡ g.S.Source.faults l.initial.source;
  aside : g.S.Source.beside l.source ≡ g.S.Source.beside l.initial.source;
}

abbrev pub decreases-loop-piece : goal.decreases-loop-piece
decreases-loop-piece g l = l.limit - length l.bytes.items
