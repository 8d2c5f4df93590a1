use Rattle.std.proofs.Common.{◌≡◌, ◌-◌, ◌≤◌, ℕ, suc, List, Bool, ◌||◌, None, length, sym, ap, ◌∙◌, subst, arith}
use Rattle.std.specs.Arc.{arc_value}
use Rattle.network_model.specs.Table.{Entry}
use Rattle.network_model.specs.Cover.{rules_at, entry_at}
use Rattle.network_model.specs.Plan.{IsPlan}
use Rattle.rule_cover.specs.PlanValue.{PlanValue}
use Rattle.fault_model.specs.Outcomes.{has}
use Rattle.suspect_book.specs.BookValue.{BookValue}
use Rattle.suspect_book.specs.Marked.{Tells}
use Rattle.suspect_book.specs.Verdicts.{verdict_at}
use Rattle.suspect_book.proofs.Booked.{book_pass, book_fail, entry_inside}
use Rattle.suspect_book.proofs.Kept.{among_numbers}
use Rattle.suspect_book.proofs.book.Book.note.Goals as goal

pub mark_passed-requires-clause-among : goal.mark_passed-requires-clause-among
mark_passed-requires-clause-among c =
    let plan = arc_value c.self.inside.plan in
    let vs = c.self.inside.verdicts.items in
    let numbers = c.self.inside.numbers.items in
    let same = c.self.view_is in
    let lent : c.deref.result.now ≡ plan = c.deref.ensures in
    let is_plan : IsPlan plan.net plan.hops plan.plan = subst (λ (p : PlanValue). IsPlan p.net p.hops p.plan) lent c.table.ensures.is_plan in
    let own : c.as_slice-rules.result.now ≡ rules_at (entry_at plan.plan.table c.args.entry) =
    c.as_slice-rules.ensures ∙ (ap rules_at c.in-Some.ensures ∙ ap (λ (t : List Entry). rules_at (entry_at t c.args.entry)) (c.table.ensures.table ∙ ap (λ (p : PlanValue). p.plan.table) lent)) in
    among_numbers plan c.deref-in-Pass.result.now c.as_slice-rules.result.now c.args.entry is_plan (c.deref-in-Pass.ensures.value ∙ c.self.invariant.kept.numbers_are) own

pub invariant_of-self : goal.invariant_of-self
invariant_of-self c =
    let plan = arc_value c.self.inside.plan in
    let vs = c.self.inside.verdicts.items in
    let numbers = c.self.inside.numbers.items in
    let same = c.self.view_is in
    let lent : c.deref.result.now ≡ plan = c.deref.ensures in
    let is_plan : IsPlan plan.net plan.hops plan.plan = subst (λ (p : PlanValue). IsPlan p.net p.hops p.plan) lent c.table.ensures.is_plan in
    let own : c.as_slice-rules.result.now ≡ rules_at (entry_at plan.plan.table c.args.entry) =
    c.as_slice-rules.ensures ∙ (ap rules_at c.in-Some.ensures ∙ ap (λ (t : List Entry). rules_at (entry_at t c.args.entry)) (c.table.ensures.table ∙ ap (λ (p : PlanValue). p.plan.table) lent)) in
    let inside : c.args.entry ≤ length plan.plan.table = subst (λ (b : BookValue). c.args.entry ≤ length b.plan.plan.table) (sym same) c.requires.inside in
    let free : verdict_at vs c.args.entry ≡ None = subst (λ (b : BookValue). verdict_at b.verdicts c.args.entry ≡ None) (sym same) c.requires.free in
    let number : c.args.entry ≡ suc (c.args.entry - 1) = omega (arith, c.requires.some) in
    let rules = c.as_slice-rules.result.now in
    let marks : (test : ℕ → Bool) → Tells numbers test c.close.new.self.passed → Tells numbers (λ r. has rules r || test r) c.mark_passed.new.sheet.passed = λ test told.
    subst (λ (ns : List ℕ). Tells ns (λ r. has rules r || test r) c.mark_passed.new.sheet.passed) c.deref-in-Pass.ensures.value
    (c.mark_passed.ensures.passed test (subst (λ (ns : List ℕ). Tells ns test c.close.new.self.passed) (sym c.deref-in-Pass.ensures.value) told)) in
    book_pass plan numbers vs c.self.inside.sheet c.self.invariant c.args.entry (c.args.entry - 1) rules c.args.verdict c.close.new.self c.mark_passed.new.sheet
    number inside free own c.close.ensures c.in-Pass.is marks c.mark_passed.ensures.room c.mark_passed.ensures.stays

pub mark_failed-requires-clause-among : goal.mark_failed-requires-clause-among
mark_failed-requires-clause-among c =
    let plan = arc_value c.self.inside.plan in
    let vs = c.self.inside.verdicts.items in
    let numbers = c.self.inside.numbers.items in
    let same = c.self.view_is in
    let lent : c.deref.result.now ≡ plan = c.deref.ensures in
    let is_plan : IsPlan plan.net plan.hops plan.plan = subst (λ (p : PlanValue). IsPlan p.net p.hops p.plan) lent c.table.ensures.is_plan in
    let own : c.as_slice-rules.result.now ≡ rules_at (entry_at plan.plan.table c.args.entry) =
    c.as_slice-rules.ensures ∙ (ap rules_at c.in-Some.ensures ∙ ap (λ (t : List Entry). rules_at (entry_at t c.args.entry)) (c.table.ensures.table ∙ ap (λ (p : PlanValue). p.plan.table) lent)) in
    among_numbers plan c.deref-in-Fail.result.now c.as_slice-rules.result.now c.args.entry is_plan (c.deref-in-Fail.ensures.value ∙ c.self.invariant.kept.numbers_are) own

pub invariant_of-self-in-Fail : goal.invariant_of-self-in-Fail
invariant_of-self-in-Fail c =
    let plan = arc_value c.self.inside.plan in
    let vs = c.self.inside.verdicts.items in
    let numbers = c.self.inside.numbers.items in
    let same = c.self.view_is in
    let lent : c.deref.result.now ≡ plan = c.deref.ensures in
    let is_plan : IsPlan plan.net plan.hops plan.plan = subst (λ (p : PlanValue). IsPlan p.net p.hops p.plan) lent c.table.ensures.is_plan in
    let own : c.as_slice-rules.result.now ≡ rules_at (entry_at plan.plan.table c.args.entry) =
    c.as_slice-rules.ensures ∙ (ap rules_at c.in-Some.ensures ∙ ap (λ (t : List Entry). rules_at (entry_at t c.args.entry)) (c.table.ensures.table ∙ ap (λ (p : PlanValue). p.plan.table) lent)) in
    let inside : c.args.entry ≤ length plan.plan.table = subst (λ (b : BookValue). c.args.entry ≤ length b.plan.plan.table) (sym same) c.requires.inside in
    let free : verdict_at vs c.args.entry ≡ None = subst (λ (b : BookValue). verdict_at b.verdicts c.args.entry ≡ None) (sym same) c.requires.free in
    let number : c.args.entry ≡ suc (c.args.entry - 1) = omega (arith, c.requires.some) in
    let rules = c.as_slice-rules.result.now in
    let marks : (test : ℕ → Bool) → Tells numbers test c.close.new.self.failed → Tells numbers (λ r. has rules r || test r) c.mark_failed.new.sheet.failed = λ test told.
    subst (λ (ns : List ℕ). Tells ns (λ r. has rules r || test r) c.mark_failed.new.sheet.failed) c.deref-in-Fail.ensures.value
    (c.mark_failed.ensures.failed test (subst (λ (ns : List ℕ). Tells ns test c.close.new.self.failed) (sym c.deref-in-Fail.ensures.value) told)) in
    book_fail plan numbers vs c.self.inside.sheet c.self.invariant c.args.entry (c.args.entry - 1) rules c.args.verdict c.close.new.self c.mark_failed.new.sheet
    number inside free own c.close.ensures c.in-Fail.is marks c.mark_failed.ensures.room c.mark_failed.ensures.stays

pub invariant_of-self-in_default : goal.invariant_of-self-in_default
invariant_of-self-in_default c =
    let plan = arc_value c.self.inside.plan in
    let vs = c.self.inside.verdicts.items in
    let numbers = c.self.inside.numbers.items in
    let same = c.self.view_is in
    let lent : c.deref.result.now ≡ plan = c.deref.ensures in
    let inside : c.args.entry ≤ length plan.plan.table = subst (λ (b : BookValue). c.args.entry ≤ length b.plan.plan.table) (sym same) c.requires.inside in
    absurd (entry_inside plan.plan.table c.args.entry c.requires.some inside
    (c.in_default.ensures ∙ ap (λ (t : List Entry). entry_at t c.args.entry) (c.table.ensures.table ∙ ap (λ (p : PlanValue). p.plan.table) lent)))
