use Rattle.std.proofs.Common.{◌≡◌, ℕ, List, ap, ◌∙◌, subst}
use Rattle.std.specs.List.{filter}
use Rattle.network_model.specs.Table.{Entry}
use Rattle.network_model.specs.Cover.{rules_at, entry_at}
use Rattle.network_model.specs.Plan.{IsPlan}
use Rattle.rule_cover.specs.PlanValue.{PlanValue}
use Rattle.fault_model.specs.Outcomes.{has}
use Rattle.fault_model.specs.Findings.{suspects}
use Rattle.suspect_book.specs.BookValue.{BookValue, IsBook}
use Rattle.suspect_book.specs.Fewness.{IsFew}
use Rattle.suspect_book.specs.Verdicts.{outcomes}
use Rattle.suspect_book.proofs.Kept.{among_numbers, suspects_told}
use Rattle.suspect_book.proofs.book.Book.suspects_on.Goals as goal

pub few_left-requires-clause-among : goal.few_left-requires-clause-among
few_left-requires-clause-among c =
    let now = c.args.self.now in
    let sheet = c.self.inside.sheet in
    let book : IsBook now.plan c.self.inside.numbers.items now.verdicts sheet =
    subst (λ (b : BookValue). IsBook b.plan c.self.inside.numbers.items b.verdicts sheet) c.self.view_is c.self.invariant in
    let kept = book.kept in
    let lent : c.deref.result.now ≡ now.plan = c.deref.ensures ∙ ap (λ (b : BookValue). b.plan) c.self.view_is in
    let is_plan : IsPlan now.plan.net now.plan.hops now.plan.plan = subst (λ (p : PlanValue). IsPlan p.net p.hops p.plan) lent c.table.ensures.is_plan in
    let own : c.as_slice.result.now ≡ rules_at (entry_at now.plan.plan.table c.args.entry) =
    c.as_slice.ensures ∙ (ap rules_at c.in-Some.ensures ∙ ap (λ (t : List Entry). rules_at (entry_at t c.args.entry)) (c.table.ensures.table ∙ ap (λ (p : PlanValue). p.plan.table) lent)) in
    among_numbers now.plan c.deref-in-Some.result.now c.as_slice.result.now c.args.entry is_plan (c.deref-in-Some.ensures.value ∙ kept.numbers_are) own

pub returns-in-Some : goal.returns-in-Some
returns-in-Some c =
    let now = c.args.self.now in
    let sheet = c.self.inside.sheet in
    let book : IsBook now.plan c.self.inside.numbers.items now.verdicts sheet =
    subst (λ (b : BookValue). IsBook b.plan c.self.inside.numbers.items b.verdicts sheet) c.self.view_is c.self.invariant in
    let kept = book.kept in
    let lent : c.deref.result.now ≡ now.plan = c.deref.ensures ∙ ap (λ (b : BookValue). b.plan) c.self.view_is in
    let is_plan : IsPlan now.plan.net now.plan.hops now.plan.plan = subst (λ (p : PlanValue). IsPlan p.net p.hops p.plan) lent c.table.ensures.is_plan in
    let own : c.as_slice.result.now ≡ rules_at (entry_at now.plan.plan.table c.args.entry) =
    c.as_slice.ensures ∙ (ap rules_at c.in-Some.ensures ∙ ap (λ (t : List Entry). rules_at (entry_at t c.args.entry)) (c.table.ensures.table ∙ ap (λ (p : PlanValue). p.plan.table) lent)) in
    let test = has (suspects now.plan.plan.table (outcomes now.verdicts)) in
    subst (λ (l : List ℕ). IsFew (filter test l) c.few_left.result) own
    (c.few_left.ensures test
    (suspects_told now.plan c.self.inside.numbers.items now.verdicts sheet.passed sheet.failed kept
    c.deref-in-Some.result.now c.failed.result.now c.passed.result.now c.deref-in-Some.ensures.value c.failed.ensures c.passed.ensures))
