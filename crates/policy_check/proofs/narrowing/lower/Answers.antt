use Rattle.std.proofs.Common.{IsTrue}
use Rattle.header_sets.specs.Spaces.{holds}
use Rattle.policy_check.proofs.Narrowed.{narrowed_first, narrowed_none}
use Rattle.policy_check.proofs.narrowing.lower.Goals as goal

pub returns-in-Some-clause-narrowed : goal.returns-in-Some-clause-narrowed
returns-in-Some-clause-narrowed c =
    narrowed_first (λ h. IsTrue (holds c.args.space.now h)) c.args.least.now c.in-Some.first c.in-Some.ensures.member c.in-Some.ensures.first
    (λ old e. rw e at c.in-Some.ensures.lesser)

pub returns-in_default-clause-narrowed : goal.returns-in_default-clause-narrowed
returns-in_default-clause-narrowed c = narrowed_none (λ h. IsTrue (holds c.args.space.now h)) c.args.least.now c.in_default.ensures.none
