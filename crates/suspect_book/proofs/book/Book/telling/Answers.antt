use Rattle.std.proofs.Common.{◌==◌, ◌&&◌, ℕ, Option, Some, None, false, length, slice_index_or, sym, subst}
use Rattle.suspect_book.specs.BookValue.{BookValue, IsBook}
use Rattle.suspect_book.specs.Flagged.{IsFirst}
use Rattle.suspect_book.specs.Sheets.{SheetValue, tally}
use Rattle.suspect_book.proofs.Booked.{book_tells}
use Rattle.suspect_book.proofs.book.Book.telling.Goals as goal

abbrev First : SheetValue → Option ℕ → Type 0
First s r = IsFirst (λ k. slice_index_or s.opens k false && (tally s.failed s.passed s.lists k == 1)) (length s.opens) r

pub returns-in-Some : goal.returns-in-Some
returns-in-Some c =
    let now = c.args.self.now in
    let s = c.self.inside in
    let book : IsBook now.plan s.numbers.items now.verdicts s.sheet = subst (λ (b : BookValue). IsBook b.plan s.numbers.items b.verdicts s.sheet) c.self.view_is c.self.invariant in
    let first : First s.sheet (Some c.in-Some.row) = subst (First s.sheet) c.in-Some.is c.first.ensures in
    sym (book_tells now.plan s.numbers.items now.verdicts s.sheet book (Some c.in-Some.row) first)

pub returns-in-None : goal.returns-in-None
returns-in-None c =
    let now = c.args.self.now in
    let s = c.self.inside in
    let book : IsBook now.plan s.numbers.items now.verdicts s.sheet = subst (λ (b : BookValue). IsBook b.plan s.numbers.items b.verdicts s.sheet) c.self.view_is c.self.invariant in
    let first : First s.sheet None = subst (First s.sheet) c.in-None.is c.first.ensures in
    sym (book_tells now.plan s.numbers.items now.verdicts s.sheet book None first)
