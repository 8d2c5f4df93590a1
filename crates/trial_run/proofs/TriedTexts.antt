-- The text of a trial is that of the definition.
use Rattle.std.specs.Prelude.{◌≡◌, ℕ, ◌≤◌, List, length}
use Rattle.std.proofs.Common.{ap, ◌∙◌}
use Rattle.network_model.specs.Network.{Network}
use Rattle.network_model.specs.Plan.{Plan, IsPlan}
use Rattle.fault_model.specs.Outcomes.{Outcome}
use Rattle.fault_model.specs.Findings.{Findings, suspects, guilty, findings}
use Rattle.fault_model.specs.Follow.{follow}
use Rattle.rule_cover.specs.PlanValue.{PlanValue}
use Rattle.suspect_book.specs.declared.report.Report.{Report}
use Rattle.suspect_book.specs.Reports.{findings_of}
use Rattle.trial_run.specs.TrialText.{trial_text}
use Rattle.trial_run.specs.TriedText.{IsTriedText}

pub text_tried : (net : Network) (hops limit : ℕ) (bad : List ℕ) (made : PlanValue) (sent : List Outcome) (report : Report) (text : List ℕ) → made.net ≡ net → made.hops ≡ hops
    → IsPlan net hops made.plan → length made.plan.table ≤ limit → sent ≡ follow net hops made.plan bad → findings_of report ≡ findings made.plan (follow net hops made.plan bad)
    → text ≡ trial_text made.net made.hops made.plan sent report.suspects report.guilty → IsTriedText net hops limit bad text
text_tried net hops limit bad made sent report text net_is hops_is is within sent_is report_is printed =
    let all : List Outcome = follow net hops made.plan bad in
    let same_suspects : report.suspects ≡ suspects made.plan.table all = ap (λ (f : Findings). f.suspects) report_is in
    let same_guilty : report.guilty ≡ guilty made.plan.table all = ap (λ (f : Findings). f.guilty) report_is in
    record {
      plan = made.plan;
      planned = is;
      within = within;
      printed = printed
          ∙ (ap (λ (n : Network). trial_text n made.hops made.plan sent report.suspects report.guilty) net_is
          ∙ (ap (λ (h : ℕ). trial_text net h made.plan sent report.suspects report.guilty) hops_is
          ∙ (ap (λ (os : List Outcome). trial_text net hops made.plan os report.suspects report.guilty) sent_is
          ∙ (ap (λ (l : List ℕ). trial_text net hops made.plan all l report.guilty) same_suspects
          ∙ ap (λ (l : List ℕ). trial_text net hops made.plan all (suspects made.plan.table all) l) same_guilty))));
    }
