use Rattle.std.proofs.Common.{◌≡◌, Some, None, sym, ap, ◌∙◌}
use Rattle.fault_model.specs.Outcomes.{failed}
use Rattle.fault_model.proofs.Listed.{has-from}
use Rattle.suspect_book.specs.declared.verdict.Verdict.TheVariants.{Pass, Fail}
use Rattle.suspect_book.specs.Verdicts.{verdict_at, outcomes}
use Rattle.suspect_book.proofs.VerdictLists.{verdict_failed, not_failed}
use Rattle.suspect_book.proofs.book.Book.has_failed.Goals as goal

pub returns-in-Some-Fail : goal.returns-in-Some-Fail
returns-in-Some-Fail c =
    let vs = c.args.self.now.verdicts in
    let is : verdict_at vs c.args.entry ≡ Some Fail = sym c.verdict.ensures ∙ (c.in-Some-Fail.is ∙ ap Some c.in-Some-Fail.field-0-is) in
    sym (has-from (failed (outcomes vs)) c.args.entry (verdict_failed vs c.args.entry is))

pub returns-in-Some-Pass : goal.returns-in-Some-Pass
returns-in-Some-Pass c =
    let vs = c.args.self.now.verdicts in
    let is : verdict_at vs c.args.entry ≡ Some Pass = sym c.verdict.ensures ∙ (c.in-Some-Pass.is ∙ ap Some c.in-Some-Pass.field-0-is) in
    sym (not_failed vs c.args.entry (Some Pass) is (λ e. cc))

pub returns-in-None : goal.returns-in-None
returns-in-None c =
    let vs = c.args.self.now.verdicts in
    sym (not_failed vs c.args.entry None (sym c.verdict.ensures ∙ c.in-None.is) (λ e. cc))
