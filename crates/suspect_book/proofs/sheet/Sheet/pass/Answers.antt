use Rattle.std.proofs.Common.{◌≡◌, ◌<◌, false, true, [], length, slice_index_or, subst, sym, ◌∙◌, arith}
use Rattle.std.proofs.lemmas.List.{get_or_read}
use Rattle.suspect_book.specs.Sheets.{SheetValue}
use Rattle.suspect_book.proofs.SheetSteps.{lowered_fits, list_inside, sheet_lowered, sheet_passed_only}
use Rattle.suspect_book.proofs.sheet.Sheet.pass.Goals as goal

pub lower-requires-clause-inside : goal.lower-requires-clause-inside
lower-requires-clause-inside c =
    let s = c.self.inside in
    let p = c.args.place in
    let within : p < length s.passed.items = subst (λ (v : SheetValue). p < length v.passed) (sym c.self.view_is) c.requires in
    let among : p < length s.lists.items = omega (arith, within, c.self.invariant.passed_room) in
    let list : c.as_slice.result.now ≡ slice_index_or s.lists.items p [] = c.as_slice.ensures ∙ get_or_read s.lists.items p c.index-then-index.result.now among c.index-then-index.ensures [] in
    list_inside s.lists.items s.failed.items s.passed.items s.tally.opens s.tally.counts c.self.invariant p c.as_slice.result.now list among

pub lower-requires-clause-fits : goal.lower-requires-clause-fits
lower-requires-clause-fits c k =
    let s = c.self.inside in
    let p = c.args.place in
    let within : p < length s.passed.items = subst (λ (v : SheetValue). p < length v.passed) (sym c.self.view_is) c.requires in
    let among : p < length s.lists.items = omega (arith, within, c.self.invariant.passed_room) in
    let also : p < length s.failed.items = omega (arith, among, c.self.invariant.failed_room) in
    let list : c.as_slice.result.now ≡ slice_index_or s.lists.items p [] = c.as_slice.ensures ∙ get_or_read s.lists.items p c.index-then-index.result.now among c.index-then-index.ensures [] in
    let free : slice_index_or s.passed.items p false ≡ false = sym (get_or_read s.passed.items p c.index.result.now within c.index.ensures false) ∙ c.if-not-index.true in
    let too : slice_index_or s.failed.items p false ≡ true = sym (get_or_read s.failed.items p c.index-then-not-index.result.now also c.index-then-not-index.ensures false) ∙ c.if-index.true in
    let most = lowered_fits s.lists.items s.failed.items s.passed.items s.tally.opens s.tally.counts c.self.invariant p c.as_slice.result.now list within too free k in
    most

pub invariant_of-self : goal.invariant_of-self
invariant_of-self c =
    let s = c.self.inside in
    let p = c.args.place in
    let within : p < length s.passed.items = subst (λ (v : SheetValue). p < length v.passed) (sym c.self.view_is) c.requires in
    let among : p < length s.lists.items = omega (arith, within, c.self.invariant.passed_room) in
    let also : p < length s.failed.items = omega (arith, among, c.self.invariant.failed_room) in
    let list : c.as_slice.result.now ≡ slice_index_or s.lists.items p [] = c.as_slice.ensures ∙ get_or_read s.lists.items p c.index-then-index.result.now among c.index-then-index.ensures [] in
    let free : slice_index_or s.passed.items p false ≡ false = sym (get_or_read s.passed.items p c.index.result.now within c.index.ensures false) ∙ c.if-not-index.true in
    let too : slice_index_or s.failed.items p false ≡ true = sym (get_or_read s.failed.items p c.index-then-not-index.result.now also c.index-then-not-index.ensures false) ∙ c.if-index.true in
    sheet_lowered s.lists.items s.failed.items s.passed.items s.tally.opens s.tally.counts c.self.invariant p c.as_slice.result.now c.lower.new.self.opens c.lower.new.self.counts list within too free
    c.lower.ensures.counts c.lower.ensures.room c.lower.ensures.opens

pub invariant_of-self-else-index : goal.invariant_of-self-else-index
invariant_of-self-else-index c =
    let s = c.self.inside in
    let p = c.args.place in
    let within : p < length s.passed.items = subst (λ (v : SheetValue). p < length v.passed) (sym c.self.view_is) c.requires in
    let also : p < length s.failed.items = omega (arith, within, c.self.invariant.passed_room, c.self.invariant.failed_room) in
    let too : slice_index_or s.failed.items p false ≡ false = sym (get_or_read s.failed.items p c.index-then-not-index.result.now also c.index-then-not-index.ensures false) ∙ c.if-index.false in
    sheet_passed_only s.lists.items s.failed.items s.passed.items s.tally.opens s.tally.counts c.self.invariant p too
