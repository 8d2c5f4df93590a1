-- The text of a trial of a network: of its plan, what following the bad rules comes to, and what that tells.
use Rattle.std.specs.Prelude.{◌≡◌, ℕ, ◌≤◌, List, length}
use Rattle.network_model.specs.Network.{Network}
use Rattle.network_model.specs.Plan.{Plan, IsPlan}
use Rattle.fault_model.specs.Findings.{suspects, guilty}
use Rattle.fault_model.specs.Follow.{follow}
use Rattle.trial_run.specs.TrialText.{trial_text}

pub record IsTriedText (net : Network) (hops limit : ℕ) (bad : List ℕ) (text : List ℕ) : Type 0 where
  pub plan : Plan
  pub planned : IsPlan net hops plan
  pub within : length plan.table ≤ limit
  pub printed : text ≡ trial_text net hops plan (follow net hops plan bad) (suspects plan.table (follow net hops plan bad)) (guilty plan.table (follow net hops plan bad))
