use Rattle.std.proofs.Common.{◌≡◌, ℕ, List, sym, ap, ◌∙◌, subst}
use Rattle.std.specs.List.{filter}
use Rattle.fault_model.specs.Outcomes.{has}
use Rattle.fault_model.specs.Findings.{suspects, guilty, is_alone}
use Rattle.suspect_book.specs.BookValue.{BookValue, IsBook}
use Rattle.suspect_book.specs.Marked.{Tells}
use Rattle.suspect_book.specs.Verdicts.{outcomes}
use Rattle.suspect_book.proofs.Kept.{suspects_told, guilty_told, suspects_listed, guilty_listed}
use Rattle.suspect_book.proofs.book.Book.report.Goals as goal

pub returns : goal.returns
returns c =
    let now = c.args.self.now in
    let numbers = c.self.inside.numbers.items in
    let os = outcomes now.verdicts in
    let sheet = c.self.inside.sheet in
    let book : IsBook now.plan numbers now.verdicts sheet = subst (λ (b : BookValue). IsBook b.plan numbers b.verdicts sheet) c.self.view_is c.self.invariant in
    let kept = book.kept in
    let test = has (suspects now.plan.plan.table os) in
    let also = has (guilty now.plan.plan.table os) in
    let found : c.suspects.inside.rules.items ≡ suspects now.plan.plan.table os =
    c.suspects.view_is ∙ (c.in_ok-suspects.ensures test (suspects_told now.plan numbers now.verdicts sheet.passed sheet.failed kept
    c.deref.result.now c.failed.result.now c.passed.result.now c.deref.ensures.value c.failed.ensures c.passed.ensures)
    ∙ (ap (filter test) c.deref.ensures.value ∙ suspects_listed now.plan numbers os kept.planned kept.numbers_are kept.rises)) in
    let told : Tells numbers (is_alone now.plan.plan.table os) c.in_ok-alone.alone.items =
    subst (λ (ns : List ℕ). Tells ns (is_alone now.plan.plan.table os) c.in_ok-alone.alone.items) (sym kept.numbers_are) c.in_ok-alone.ensures.alone in
    let are : c.in_ok-rules_left.field-0 ≡ guilty now.plan.plan.table os =
    c.in_ok-rules_left.ensures also (guilty_told now.plan numbers now.verdicts sheet.passed sheet.failed c.in_ok-alone.alone.items kept told
    c.deref-2.result.now c.deref-3.result.now c.passed-2.result.now c.deref-2.ensures.value c.deref-3.ensures.value c.passed-2.ensures)
    ∙ (ap (filter also) c.deref-2.ensures.value ∙ guilty_listed now.plan numbers os kept.planned kept.numbers_are kept.rises) in
    λ i. record { suspects = found i; guilty = are i; odd = c.odd.ensures i; next = c.telling.ensures i }
