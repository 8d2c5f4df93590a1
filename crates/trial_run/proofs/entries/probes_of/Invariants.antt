use Rattle.std.proofs.Common.{◌≡◌, take}
use Rattle.trial_run.proofs.entries.probes_of.Given as goal

abbrev pub invariant-loop-i : goal.invariant-loop-i
invariant-loop-i l = l.probes.items ≡ take l.i l.plan.plan.probes
