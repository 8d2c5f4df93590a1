use Rattle.std.proofs.Common.{◌∙◌, sym}
use Rattle.policy_check.proofs.Narrowed.{narrowed_none}
use Rattle.policy_check.specs.Outcomes.{IsUnmatchedBreach}
use Rattle.policy_check.proofs.Following.{unmatched_breaches}
use Rattle.policy_check.proofs.search.lower_unmatched.Goals as goal

pub returns-in_ok-unmatched-clause-narrowed : goal.returns-in_ok-unmatched-clause-narrowed
returns-in_ok-unmatched-clause-narrowed c =
    unmatched_breaches c.args.net.now c.args.demand c.args.part.now c.in_ok-unmatched.field-0 (sym c.undelivered.ensures ∙ c.in-Breaks.is) c.in_ok-unmatched.ensures.set
    c.args.least.now c.lower-in-Breaks.new.least c.lower-in-Breaks.ensures.narrowed

pub returns-in_default : goal.returns-in_default
returns-in_default c = record {
  width = c.requires.found;
  narrowed = narrowed_none (IsUnmatchedBreach c.args.net.now c.args.demand c.args.part.now) c.args.least.now
      (λ h p. absurd (c.in_default.not-Breaks (c.undelivered.ensures ∙ p.2)));
}
