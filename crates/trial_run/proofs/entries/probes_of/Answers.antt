use Rattle.std.proofs.Common.{sym, ◌∙◌}
use Rattle.trial_run.proofs.Probes.{taken_more}
use Rattle.trial_run.proofs.entries.probes_of.Goals as goal

pub loop-i-preserved : goal.loop-i-preserved
loop-i-preserved c =
    taken_more c.args.plan.now.plan.probes c.loop-i.probes.items c.push.new.self.items c.loop-i.i c.unwrap-number.result c.in_ok-push.ensures.items c.loop-i.invariant
    (sym c.probe.ensures ∙ c.unwrap-number.ensures)
