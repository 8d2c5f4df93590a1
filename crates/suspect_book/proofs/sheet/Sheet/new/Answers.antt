use Rattle.std.proofs.Common.{◌≡◌, ◌<◌, ℕ, List, [], Bool, false, slice_index, slice_index_or, length, replicate, subst, sym, ap, ◌∙◌, arith}
use Rattle.suspect_book.proofs.SheetSteps.{sheet_new}
use Rattle.suspect_book.proofs.sheet.Sheet.new.Goals as goal

pub invariant_of-result : goal.invariant_of-result
invariant_of-result c =
    let lists = c.args.lists.items in
    let room : c.len.result ≡ length lists = omega (arith, c.len.ensures) in
    let room_too : c.len-2.result ≡ length lists = omega (arith, c.len-2.ensures) in
    let same : c.in_ok-tally.tally.opens ≡ c.args.opens.items = c.in_ok-tally.ensures.opens in
    sheet_new lists c.in_ok-failed.failed.items c.in_ok-passed.passed.items c.in_ok-tally.tally.opens c.in_ok-tally.tally.counts
    (c.in_ok-failed.ensures.items_if_clones_equal (λ y e. e) ∙ ap (λ (n : ℕ). replicate n false) room)
    (c.in_ok-passed.ensures.items_if_clones_equal (λ y e. e) ∙ ap (λ (n : ℕ). replicate n false) room_too)
    (c.in_ok-tally.ensures.zero ∙ sym (ap (λ l. replicate (length l) 0) same)) c.requires.rises
    (λ p i l m. subst (λ (o : List Bool). slice_index (slice_index_or lists p []) i < length o) (sym same) (c.requires.inside p i l m))
