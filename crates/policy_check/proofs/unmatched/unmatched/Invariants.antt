use Rattle.policy_check.proofs.Rest.{HasTaken}
use Rattle.policy_check.proofs.unmatched.unmatched.Given as goal

abbrev pub invariant-loop-rule : goal.invariant-loop-rule
invariant-loop-rule l = HasTaken l.net l.part.port l.part.rewrite l.net.width l.rule-items l.rule-index l.taken.items
