use Rattle.std.proofs.Common.{◌≤◌, length, ap, subst}
use Rattle.rule_cover.specs.PlanValue.{PlanValue}
use Rattle.suspect_book.specs.BookValue.{BookValue}
use Rattle.trial_run.proofs.Noted.{counted_once, noted_more}
use Rattle.trial_run.proofs.following.note.Goals as goal

pub returns-clause-noted : goal.returns-clause-noted
returns-clause-noted c = λ plan noted.
    let entry = c.args.entry in
    let old = c.args.book.now in
    let now = c.count-first.new.self in
    let set = counted_once c.count-first.result old now entry c.args.verdict c.requires.free c.count-first.ensures.ok c.count-first.ensures.counted in
    noted_more plan old now c.args.sent.now.items c.push.new.self.items entry c.args.verdict noted c.requires.some
    (subst (λ (p : PlanValue). entry ≤ length p.plan.table) noted.plan_is c.requires.inside) c.requires.free (ap (λ (b : BookValue). b.plan) set) (ap (λ (b : BookValue). b.verdicts) set)
    c.in_ok-push.ensures.items
