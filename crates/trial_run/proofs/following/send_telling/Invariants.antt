use Rattle.trial_run.specs.Underway.{IsFieldOf, IsNoted, IsFollowed, left}
use Rattle.trial_run.proofs.following.send_telling.Given as goal

-- going on from here comes to what following does
abbrev pub invariant-loop-entry : goal.invariant-loop-entry
invariant-loop-entry l = record {
  field : IsFieldOf l.plan.net l.plan.hops l.bad l.field;
  noted : IsNoted l.plan l.book l.sent.items;
  followed : IsFollowed l.plan l.bad l.sent.items;
}

abbrev pub decreases-loop-entry : goal.decreases-loop-entry
decreases-loop-entry l = left l.plan l.sent.items
