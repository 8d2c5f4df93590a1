use Rattle.std.proofs.Common.{subst}
use Rattle.fault_model.specs.Outcomes.{AreOutcomes}
use Rattle.suspect_book.specs.BookValue.{BookValue}
use Rattle.suspect_book.specs.Verdicts.{outcomes}
use Rattle.suspect_book.proofs.VerdictLists.{are_outcomes}
use Rattle.suspect_book.proofs.book.Book.findings.Goals as goal

pub returns-clause-outcomes : goal.returns-clause-outcomes
returns-clause-outcomes c =
    subst (λ (b : BookValue). AreOutcomes b.plan.plan.table (outcomes b.verdicts)) c.self.view_is
    (are_outcomes _ c.self.inside.verdicts.items c.self.invariant.kept.each)
