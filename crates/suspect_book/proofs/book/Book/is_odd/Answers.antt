use Rattle.std.proofs.Common.{◌≡◌, Bool, true, ◌&&◌, sym, ap, ◌∙◌}
use Rattle.fault_model.specs.Outcomes.{failed, has}
use Rattle.fault_model.specs.Findings.{is_none, outside, suspects_on}
use Rattle.fault_model.proofs.Listed.{has-true}
use Rattle.suspect_book.specs.Verdicts.{outcomes}
use Rattle.suspect_book.proofs.Found.{outside_suspects}
use Rattle.suspect_book.proofs.book.Book.is_odd.Goals as goal

pub returns-then-has_failed : goal.returns-then-has_failed
returns-then-has_failed c =
    let now = c.args.self.now in
    let table = now.plan.plan.table in
    let os = outcomes now.verdicts in
    let fails : has (failed os) c.args.entry ≡ true = sym c.has_failed.ensures ∙ c.if-has_failed.true in
    c.is_nothing.ensures (suspects_on table os c.args.entry) c.suspects_on.ensures
    ∙ (ap is_none (sym (outside_suspects table os c.args.entry (has-true (failed os) c.args.entry fails)))
    ∙ sym (ap (λ (b : Bool). b && is_none (outside table os c.args.entry)) fails))
