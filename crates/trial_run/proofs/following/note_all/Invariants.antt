use Rattle.std.proofs.Common.{◌≡◌, map, take}
use Rattle.fault_model.specs.Follow.{outcome_of}
use Rattle.trial_run.specs.Trial.{outcomes_of}
use Rattle.trial_run.specs.Underway.{IsNoted}
use Rattle.trial_run.proofs.following.note_all.Given as goal

-- the probes before this place were sent
abbrev pub invariant-loop-i : goal.invariant-loop-i
invariant-loop-i l = record {
  noted : IsNoted l.plan l.book l.sent.items;
  sent : outcomes_of l.sent.items ≡ map (outcome_of l.plan.net l.plan.hops l.bad l.plan.plan.table) (take l.i l.plan.plan.probes);
}
