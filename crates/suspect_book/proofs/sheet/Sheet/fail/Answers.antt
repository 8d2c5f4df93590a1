use Rattle.std.proofs.Common.{◌≡◌, ◌<◌, false, true, [], length, slice_index_or, subst, sym, ◌∙◌, arith}
use Rattle.std.proofs.lemmas.List.{get_or_read}
use Rattle.suspect_book.specs.Sheets.{SheetValue}
use Rattle.suspect_book.proofs.SheetSteps.{raised_fits, list_inside, sheet_raised, sheet_failed_only}
use Rattle.suspect_book.proofs.sheet.Sheet.fail.Goals as goal

pub raise-requires-clause-inside : goal.raise-requires-clause-inside
raise-requires-clause-inside c =
    let s = c.self.inside in
    let p = c.args.place in
    let within : p < length s.failed.items = subst (λ (v : SheetValue). p < length v.failed) (sym c.self.view_is) c.requires in
    let among : p < length s.lists.items = omega (arith, within, c.self.invariant.failed_room) in
    let list : c.as_slice.result.now ≡ slice_index_or s.lists.items p [] = c.as_slice.ensures ∙ get_or_read s.lists.items p c.index-then-not-index-2.result.now among c.index-then-not-index-2.ensures [] in
    list_inside s.lists.items s.failed.items s.passed.items s.tally.opens s.tally.counts c.self.invariant p c.as_slice.result.now list among

pub raise-requires-clause-fits : goal.raise-requires-clause-fits
raise-requires-clause-fits c k =
    let s = c.self.inside in
    let p = c.args.place in
    let within : p < length s.failed.items = subst (λ (v : SheetValue). p < length v.failed) (sym c.self.view_is) c.requires in
    let among : p < length s.lists.items = omega (arith, within, c.self.invariant.failed_room) in
    let also : p < length s.passed.items = omega (arith, among, c.self.invariant.passed_room) in
    let list : c.as_slice.result.now ≡ slice_index_or s.lists.items p [] = c.as_slice.ensures ∙ get_or_read s.lists.items p c.index-then-not-index-2.result.now among c.index-then-not-index-2.ensures [] in
    let free : slice_index_or s.failed.items p false ≡ false = sym (get_or_read s.failed.items p c.index.result.now within c.index.ensures false) ∙ c.if-not-index.true in
    let too : slice_index_or s.passed.items p false ≡ false = sym (get_or_read s.passed.items p c.index-then-not-index.result.now also c.index-then-not-index.ensures false) ∙ c.if-not-index-2.true in
    let most = raised_fits s.lists.items s.failed.items s.passed.items s.tally.opens s.tally.counts c.self.invariant p c.as_slice.result.now list within free too k in
    omega (arith, most, s.lists.ok.0)

pub invariant_of-self : goal.invariant_of-self
invariant_of-self c =
    let s = c.self.inside in
    let p = c.args.place in
    let within : p < length s.failed.items = subst (λ (v : SheetValue). p < length v.failed) (sym c.self.view_is) c.requires in
    let among : p < length s.lists.items = omega (arith, within, c.self.invariant.failed_room) in
    let also : p < length s.passed.items = omega (arith, among, c.self.invariant.passed_room) in
    let list : c.as_slice.result.now ≡ slice_index_or s.lists.items p [] = c.as_slice.ensures ∙ get_or_read s.lists.items p c.index-then-not-index-2.result.now among c.index-then-not-index-2.ensures [] in
    let free : slice_index_or s.failed.items p false ≡ false = sym (get_or_read s.failed.items p c.index.result.now within c.index.ensures false) ∙ c.if-not-index.true in
    let too : slice_index_or s.passed.items p false ≡ false = sym (get_or_read s.passed.items p c.index-then-not-index.result.now also c.index-then-not-index.ensures false) ∙ c.if-not-index-2.true in
    sheet_raised s.lists.items s.failed.items s.passed.items s.tally.opens s.tally.counts c.self.invariant p c.as_slice.result.now c.raise.new.self.opens c.raise.new.self.counts list within free too
    c.raise.ensures.counts c.raise.ensures.room c.raise.ensures.opens

pub invariant_of-self-else-not-index-2 : goal.invariant_of-self-else-not-index-2
invariant_of-self-else-not-index-2 c =
    let s = c.self.inside in
    let p = c.args.place in
    let within : p < length s.failed.items = subst (λ (v : SheetValue). p < length v.failed) (sym c.self.view_is) c.requires in
    let also : p < length s.passed.items = omega (arith, within, c.self.invariant.failed_room, c.self.invariant.passed_room) in
    let too : slice_index_or s.passed.items p false ≡ true = sym (get_or_read s.passed.items p c.index-then-not-index.result.now also c.index-then-not-index.ensures false) ∙ c.if-not-index-2.false in
    sheet_failed_only s.lists.items s.failed.items s.passed.items s.tally.opens s.tally.counts c.self.invariant p too
