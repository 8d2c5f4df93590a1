use Rattle.std.proofs.Common.{◌≤◌}
use Rattle.policy_text.proofs.Verdicts.{HasAnswered}
use Rattle.policy_text.proofs.answering.answers_to.Given as goal

abbrev pub invariant-loop-i : goal.invariant-loop-i
invariant-loop-i l = record {
  answered : HasAnswered l.net l.hops l.policies l.i l.broken l.text.items;
  few : l.broken ≤ l.i;
}
