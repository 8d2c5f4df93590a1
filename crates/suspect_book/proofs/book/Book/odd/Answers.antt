use Rattle.std.proofs.Common.{◌≡◌, ◌+◌, length, refl, sym, ap, ◌∙◌, arith}
use Rattle.std.specs.List.{range_with_len}
use Rattle.std.proofs.lemmas.List.FromFn.{length-range_with_len}
use Rattle.rule_cover.specs.PlanValue.{PlanValue}
use Rattle.fault_model.specs.Findings.{is_odd}
use Rattle.suspect_book.specs.BookValue.{BookValue}
use Rattle.suspect_book.specs.Verdicts.{outcomes}
use Rattle.suspect_book.proofs.Found.{find_here, find_later, find_end, range_at}
use Rattle.suspect_book.proofs.book.Book.odd.Goals as goal

pub loop-row-init : goal.loop-row-init
loop-row-init c = refl

pub returns-then-is_odd : goal.returns-then-is_odd
returns-then-is_odd c =
    let now = c.args.self.now in
    let table = now.plan.plan.table in
    let row = c.loop-row.row in
    let end : c.len-row-end.result ≡ length table = c.len-row-end.ensures ∙ (ap length c.table.ensures.table ∙ (ap (λ (p : PlanValue). length p.plan.table) c.deref.ensures ∙ ap (λ (b : BookValue). length b.plan.plan.table) c.self.view_is)) in
    sym (c.loop-row.invariant ∙ find_here (is_odd table (outcomes now.verdicts)) (range_with_len 1 (length table)) row (row + 1)
    (range_at (length table) row (omega (arith, c.loop-row-test.true, end))) (sym c.is_odd.ensures ∙ c.if-is_odd.true))

pub loop-row-preserved : goal.loop-row-preserved
loop-row-preserved c =
    let now = c.args.self.now in
    let table = now.plan.plan.table in
    let row = c.loop-row.row in
    let end : c.len-row-end.result ≡ length table = c.len-row-end.ensures ∙ (ap length c.table.ensures.table ∙ (ap (λ (p : PlanValue). length p.plan.table) c.deref.ensures ∙ ap (λ (b : BookValue). length b.plan.plan.table) c.self.view_is)) in
    c.loop-row.invariant ∙ find_later (is_odd table (outcomes now.verdicts)) (range_with_len 1 (length table)) row (row + 1)
    (range_at (length table) row (omega (arith, c.loop-row-test.true, end))) (sym c.is_odd.ensures ∙ c.if-is_odd.false)

pub returns : goal.returns
returns c =
    let now = c.args.self.now in
    let table = now.plan.plan.table in
    let end : c.len-row-end.result ≡ length table = c.len-row-end.ensures ∙ (ap length c.table.ensures.table ∙ (ap (λ (p : PlanValue). length p.plan.table) c.deref.ensures ∙ ap (λ (b : BookValue). length b.plan.plan.table) c.self.view_is)) in
    sym (c.loop-row.invariant ∙ find_end (is_odd table (outcomes now.verdicts)) (range_with_len 1 (length table)) c.loop-row.row
    (omega (arith, c.loop-row-test.false, end, length-range_with_len 1 (length table))))
