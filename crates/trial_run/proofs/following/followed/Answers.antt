use Rattle.std.proofs.Common.{List, None, length, replicate, sym, ap, ◌∙◌}
use Rattle.std.specs.Arc.{arc_value}
use Rattle.rule_cover.specs.PlanValue.{PlanValue}
use Rattle.trial_run.proofs.Noted.{noted_none}
use Rattle.trial_run.proofs.Steps.{report_told}
use Rattle.trial_run.proofs.following.followed.Goals as goal

pub send_probes-requires-clause-noted : goal.send_probes-requires-clause-noted
send_probes-requires-clause-noted g c κs within =
    let same = c.in_ok-try_clone.ensures ∙ sym c.deref.ensures in
    noted_none c.deref.result.now c.in_ok-book.book c.new-sent.result.items (c.in_ok-book.ensures.plan ∙ same)
    (c.in_ok-book.ensures.empty ∙ ap (λ (p : PlanValue). replicate (length p.plan.table) None) same) c.new-sent.ensures.items

pub returns-clause-report : goal.returns-clause-report
returns-clause-report g c =
    report_told (arc_value c.args.plan.now) c.deref-2.result.now c.send_telling.new.book c.send_telling.new.sent.items c.args.bad.now c.in_ok-report.report c.deref-2.ensures
    c.in_ok-send_telling.ensures.noted c.in_ok-send_telling.ensures.sent c.in_ok-report.ensures.report
