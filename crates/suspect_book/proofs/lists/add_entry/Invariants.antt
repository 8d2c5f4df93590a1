use Rattle.std.proofs.Common.{◌≡◌, ℕ, suc, ◌<◌, ◌||◌, ◌&&◌, [], length, take, slice_index, slice_index_or, nat_eq}
use Rattle.fault_model.specs.Outcomes.{has}
use Rattle.suspect_book.specs.Standings.{AreRising, AreBelow}
use Rattle.suspect_book.proofs.lists.add_entry.Given as goal

abbrev pub invariant-loop-rule : goal.invariant-loop-rule
invariant-loop-rule l = record {
  rising : AreRising l.lists;
  last : AreBelow (suc l.place) l.lists;
  each : (p k : ℕ) → p < length l.numbers
      → has (slice_index_or l.lists p []) k ≡ ((nat_eq k l.place && has (take l.rule-index l.rules) (slice_index l.numbers p)) || has (slice_index_or l.initial.lists p []) k);
}
