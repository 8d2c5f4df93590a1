-- The text of a plan says what the laws of plans promise.
use Rattle.std.proofs.Common.{◌≡◌, ℕ, ◌≤◌, List, None, length, refl}
use Rattle.network_model.specs.Network.{Network}
use Rattle.network_model.specs.Plan.{Plan, IsPlan}
use Rattle.network_model.proofs.TableLaws.{packets_permitted, packets_travelled}
use Rattle.network_model.proofs.CoverLaws.{exercised_covered}
use Rattle.plan_text.specs.PlanText.{plan_text}
use Rattle.fault_model.proofs.Followed.{follow_suspects, follow_guilty}
use Rattle.trial_run.specs.Trial.{first_unknown}
use Rattle.trial_run.specs.TriedText.{IsTriedText}
use Rattle.atpg.specs.declared.faults.Trial.{Trial}
use Rattle.atpg.specs.declared.words.Options.{Options}
use Rattle.atpg.specs.Run.{IsOutput, IsTried}

pub output_from_plan : (net : Network) (options : Options) (plan : Plan) (text : List ℕ) → IsPlan net options.hops plan → length plan.table ≤ options.entries → text ≡ plan_text net options.hops plan → IsOutput net options text
output_from_plan net options plan text is within printed = record {
  plan = plan;
  planned = is;
  within = within;
  printed = printed;
  sent = packets_permitted net options.hops plan.table is.table;
  travels = packets_travelled net options.hops plan.table is.table;
  tried = λ rule exercised. exercised_covered net options.hops plan.table plan.probes is.table is.probes rule exercised;
}

-- and so does that of a trial
pub tried_from_text : (net : Network) (trial : Trial) (text : List ℕ) → first_unknown net trial.faults ≡ None → IsTriedText net trial.options.hops trial.options.entries trial.faults text → IsTried net trial text
unfolding output_from_plan
tried_from_text net trial text known is = record {
  known = known;
  plan_part = plan_text net trial.options.hops is.plan;
  output = output_from_plan net trial.options is.plan (plan_text net trial.options.hops is.plan) is.planned is.within refl;
  printed = is.printed;
  suspected = follow_suspects net trial.options.hops is.plan trial.faults is.planned;
  guilty_listed = follow_guilty net trial.options.hops is.plan trial.faults is.planned;
}
