use Rattle.std.proofs.Common.{◌≡◌, ◌<◌, ℕ, List, slice_index, length, ap, ◌∙◌, arith}
use Rattle.std.proofs.lemmas.List.{get_or_read}
use Rattle.suspect_book.specs.Tallied.{TallyValue}
use Rattle.suspect_book.proofs.Tallies.{times_next}
use Rattle.suspect_book.proofs.tally.Tally.lower.Goals as goal

pub overflow_sub-count : goal.overflow_sub-count
overflow_sub-count c =
    let i = c.loop-place.place-index in
    let n = slice_index c.args.places.now i in
    let same : c.self.inside.counts.items ≡ c.loop-place.self.counts = ap (λ (t : TallyValue). t.counts) c.self.view_is in
    let inside : n < length c.self.inside.counts.items = omega (arith, c.requires.inside i c.loop-place-test.true, c.loop-place.invariant.room, ap length same) in
    let read : c.index.result.now ≡ slice_index c.loop-place.self.counts n = get_or_read c.self.inside.counts.items n c.index.result.now inside c.index.ensures 0 ∙ ap (λ (l : List ℕ). slice_index l n) same in
    omega (arith, read, c.loop-place.invariant.counts n, c.requires.fits n, times_next c.args.places.now i 0 c.loop-place-test.true)
