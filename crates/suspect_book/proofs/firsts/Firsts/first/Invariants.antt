use Rattle.std.proofs.Common.{◌≡◌, ℕ, ◌<◌, ◌*◌, length, false, slice_index_or}
use Rattle.suspect_book.proofs.firsts.Firsts.first.Given as goal

abbrev pub invariant-loop-block : goal.invariant-loop-block
invariant-loop-block l = (k : ℕ) → k < length l.self → k < 512 * l.block → slice_index_or l.self k false ≡ false
