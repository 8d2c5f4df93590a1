use Rattle.std.proofs.Common.{◌≡◌, ℕ, ◌+◌, length, slice_index, take}
use Rattle.suspect_book.specs.Tallied.{times}
use Rattle.suspect_book.proofs.tally.Tally.lower.Given as goal

abbrev pub invariant-loop-place : goal.invariant-loop-place
invariant-loop-place l = record {
  counts : (k : ℕ) → slice_index l.self.counts k + times (take l.place-index l.places) k ≡ slice_index l.initial.self.counts k;
  room : length l.self.counts ≡ length l.initial.self.counts;
  opens : l.self.opens ≡ l.initial.self.opens;
}
