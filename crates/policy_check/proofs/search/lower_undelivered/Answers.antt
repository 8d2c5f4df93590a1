use Rattle.std.proofs.Common.{◌≡◌, IsTrue, ◌∙◌}
use Rattle.header_sets.specs.Spaces.{holds}
use Rattle.policy_check.specs.Outcomes.{undelivered}
use Rattle.policy_check.specs.declared.outcome.Outcome.TheVariants.{Breaks}
use Rattle.policy_check.proofs.Narrowed.{narrowed_none}
use Rattle.policy_check.proofs.search.lower_undelivered.Goals as goal

pub returns-in_default : goal.returns-in_default
returns-in_default c = record {
  width = c.requires;
  narrowed = narrowed_none (λ h. IsTrue (holds c.args.space.now h) × (undelivered c.args.demand ≡ Breaks)) c.args.least.now
      (λ h p. absurd (c.in_default.not-Breaks (c.undelivered.ensures ∙ p.1)));
}
