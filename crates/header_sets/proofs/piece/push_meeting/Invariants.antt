use Rattle.std.proofs.Common.{◌≡◌, length, take}
use Rattle.std.specs.List.{All}
use Rattle.header_sets.proofs.Narrowing.{Pushed}
use Rattle.header_sets.proofs.piece.push_meeting.Given as goal

abbrev pub invariant-loop-other : goal.invariant-loop-other
invariant-loop-other l = record {
  matched : Pushed l.pattern l.initial.kept.items (take l.other-index l.others) l.kept.items;
  widths : All (λ other. length other ≡ length l.pattern) l.initial.kept.items → All (λ other. length other ≡ length l.pattern) l.kept.items;
}
