use Rattle.std.proofs.Common.{◌≡◌, ◌≤◌, length, Option, Some, None, sym, ◌∙◌, subst}
use Rattle.network_model.specs.Cover.{entry_at}
use Rattle.fault_model.specs.Follow.{verdict_of}
use Rattle.rule_cover.specs.PlanValue.{PlanValue}
use Rattle.trial_run.proofs.Steps.{book_telling, telling_number, telling_free, followed_more, followed_end, shot_is, sure_means}
use Rattle.trial_run.proofs.following.send_telling.Goals as goal

pub send_one-requires-clause-some : goal.send_one-requires-clause-some
send_one-requires-clause-some c =
    let told = sym (book_telling c.args.plan.now c.loop-entry.book c.loop-entry.sent.items c.loop-entry.invariant.noted c.telling.result c.telling.ensures) ∙ c.in-Some.is in
    (telling_number c.args.plan.now c.loop-entry.sent.items c.in-Some.entry told).0

pub send_one-requires-clause-inside : goal.send_one-requires-clause-inside
send_one-requires-clause-inside c =
    let told = sym (book_telling c.args.plan.now c.loop-entry.book c.loop-entry.sent.items c.loop-entry.invariant.noted c.telling.result c.telling.ensures) ∙ c.in-Some.is in
    (telling_number c.args.plan.now c.loop-entry.sent.items c.in-Some.entry told).1

pub verdict_of_shot-requires : goal.verdict_of_shot-requires
verdict_of_shot-requires c =
    let plan = c.args.plan.now in
    shot_is c.in_ok-shot.shot (verdict_of plan.net plan.hops c.args.bad.now (entry_at plan.plan.table c.in-Some.entry)) (c.in_ok-shot.ensures c.args.bad.now c.loop-entry.invariant.field).0

pub note-requires-clause-some : goal.note-requires-clause-some
note-requires-clause-some c =
    let told = sym (book_telling c.args.plan.now c.loop-entry.book c.loop-entry.sent.items c.loop-entry.invariant.noted c.telling.result c.telling.ensures) ∙ c.in-Some.is in
    (telling_number c.args.plan.now c.loop-entry.sent.items c.in-Some.entry told).0

pub note-requires-clause-inside : goal.note-requires-clause-inside
note-requires-clause-inside c =
    let told = sym (book_telling c.args.plan.now c.loop-entry.book c.loop-entry.sent.items c.loop-entry.invariant.noted c.telling.result c.telling.ensures) ∙ c.in-Some.is in
    subst (λ (p : PlanValue). c.in-Some.entry ≤ length p.plan.table) (sym c.loop-entry.invariant.noted.plan_is) (telling_number c.args.plan.now c.loop-entry.sent.items c.in-Some.entry told).1

pub note-requires-clause-free : goal.note-requires-clause-free
note-requires-clause-free c =
    let told = sym (book_telling c.args.plan.now c.loop-entry.book c.loop-entry.sent.items c.loop-entry.invariant.noted c.telling.result c.telling.ensures) ∙ c.in-Some.is in
    telling_free c.args.plan.now c.loop-entry.book c.loop-entry.sent.items c.in-Some.entry c.loop-entry.invariant.noted told

pub loop-entry-smaller : goal.loop-entry-smaller
loop-entry-smaller c =
    let plan = c.args.plan.now in
    let told = sym (book_telling plan c.loop-entry.book c.loop-entry.sent.items c.loop-entry.invariant.noted c.telling.result c.telling.ensures) ∙ c.in-Some.is in
    let shot = (c.in_ok-shot.ensures c.args.bad.now c.loop-entry.invariant.field).0 in
    let means = sure_means (verdict_of plan.net plan.hops c.args.bad.now (entry_at plan.plan.table c.in-Some.entry)) c.verdict_of_shot.result (sym c.verdict_of_shot.ensures ∙ shot) in
    (followed_more plan c.args.bad.now c.loop-entry.sent.items c.note.new.sent.items c.in-Some.entry c.verdict_of_shot.result c.loop-entry.invariant.followed told means c.in_ok-note.ensures.sent).1

pub loop-entry-preserved : goal.loop-entry-preserved
loop-entry-preserved c =
    let plan = c.args.plan.now in
    let told = sym (book_telling plan c.loop-entry.book c.loop-entry.sent.items c.loop-entry.invariant.noted c.telling.result c.telling.ensures) ∙ c.in-Some.is in
    let shot = c.in_ok-shot.ensures c.args.bad.now c.loop-entry.invariant.field in
    let means = sure_means (verdict_of plan.net plan.hops c.args.bad.now (entry_at plan.plan.table c.in-Some.entry)) c.verdict_of_shot.result (sym c.verdict_of_shot.ensures ∙ shot.0) in
    record {
      field = shot.1;
      noted = c.in_ok-note.ensures.noted plan c.loop-entry.invariant.noted;
      followed = (followed_more plan c.args.bad.now c.loop-entry.sent.items c.note.new.sent.items c.in-Some.entry c.verdict_of_shot.result c.loop-entry.invariant.followed told means c.in_ok-note.ensures.sent).0;
    }

pub returns-clause-sent : goal.returns-clause-sent
returns-clause-sent c =
    let none = sym (book_telling c.args.plan.now c.loop-entry.book c.loop-entry.sent.items c.loop-entry.invariant.noted c.telling.result c.telling.ensures) ∙ c.in_default.is in
    followed_end c.args.plan.now c.args.bad.now c.loop-entry.sent.items c.loop-entry.invariant.followed none
