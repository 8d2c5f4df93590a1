use Rattle.std.specs.Prelude.{slice_get, slice_index_or}
use Rattle.std.proofs.Common.{◌≡◌, ◌≤◌, ℕ, List, length, Some, sym, ap, ◌∙◌, subst}
use Rattle.std.proofs.lemmas.Option.{slice_get-get_or}
use Rattle.network_model.specs.Cover.{entry_at}
use Rattle.fault_model.specs.Follow.{verdict_of}
use Rattle.rule_cover.specs.PlanValue.{PlanValue}
use Rattle.trial_run.proofs.Steps.{probes_inside, probe_free, shot_is, shot_at}
use Rattle.trial_run.proofs.following.note_all.Goals as goal

pub verdict_of_shot-requires : goal.verdict_of_shot-requires
verdict_of_shot-requires c =
    let plan = c.args.plan.now in
    let i = c.loop-i.i in
    shot_is _ (verdict_of plan.net plan.hops c.args.bad.now (entry_at plan.plan.table (slice_index_or c.args.probes.now i 0)))
    (shot_at plan.net plan.hops c.args.bad.now plan.plan.table c.args.probes.now c.args.shots.now i _ c.requires.sure c.loop-i-test.true)

pub note-requires-clause-some : goal.note-requires-clause-some
note-requires-clause-some c = (probes_inside c.args.plan.now c.args.probes.now c.hops-hops.ensures.is_plan c.requires.probes c.loop-i.i 0 c.loop-i-test.true).0

pub note-requires-clause-inside : goal.note-requires-clause-inside
note-requires-clause-inside c =
    subst (λ (p : PlanValue). slice_index_or c.args.probes.now c.loop-i.i 0 ≤ length p.plan.table) (sym c.loop-i.invariant.noted.plan_is)
    (probes_inside c.args.plan.now c.args.probes.now c.hops-hops.ensures.is_plan c.requires.probes c.loop-i.i 0 c.loop-i-test.true).1

pub note-requires-clause-free : goal.note-requires-clause-free
note-requires-clause-free c =
    let i = c.loop-i.i in
    let n : ℕ = slice_index_or c.args.probes.now i 0 in
    let at : slice_get c.args.plan.now.plan.probes i ≡ Some n = ap (λ (l : List ℕ). slice_get l i) (sym c.requires.probes) ∙ slice_get-get_or c.args.probes.now i 0 c.loop-i-test.true in
    probe_free c.args.plan.now c.loop-i.book c.loop-i.sent.items c.args.bad.now i n c.hops-hops.ensures.is_plan c.loop-i.invariant.noted c.loop-i.invariant.sent at
