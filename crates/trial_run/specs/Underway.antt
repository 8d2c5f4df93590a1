-- A trial underway.
--     IsFieldOf    nothing waits in a field, and it carries what that of a network with these bad rules does
--     IsNoted      a book has the verdicts of the packets that were sent, and no others
--     IsFollowed   going on with the telling entry from the packets that were sent comes to what following does
use Rattle.std.specs.Prelude.{◌≡◌, ◌↔◌, ℕ, ◌+◌, ◌-◌, List, [], length, Contains}
use Rattle.network_model.specs.Network.{Network}
use Rattle.network_model.specs.Plan.{reserved}
use Rattle.fault_model.specs.Outcomes.{Outcome}
use Rattle.fault_model.specs.Follow.{and_telling, follow}
use Rattle.rule_cover.specs.PlanValue.{PlanValue}
use Rattle.suspect_book.specs.declared.verdict.Verdict.{Verdict}
use Rattle.suspect_book.specs.BookValue.{BookValue}
use Rattle.suspect_book.specs.Verdicts.{outcomes}
use Rattle.probe_wire.specs.Carrying.{added}
use Rattle.field_sim.specs.FieldValue.{FieldValue}
use Rattle.trial_run.specs.Trial.{outcomes_of}

pub record IsFieldOf (net : Network) (hops : ℕ) (bad : List ℕ) (field : FieldValue) : Type 0 where
  pub waiting : field.waiting ≡ []
  pub adds : added field.net field.hops field.bad ≡ added net hops bad

pub record IsNoted (plan : PlanValue) (book : BookValue) (sent : List (ℕ × Verdict)) : Type 0 where
  pub plan_is : book.plan ≡ plan
  pub each : length book.verdicts ≡ length plan.plan.table
  pub same : (o : Outcome) → Contains (outcomes_of sent) o ↔ Contains (outcomes book.verdicts) o

-- how many packets may still be sent
abbrev pub left : PlanValue → List (ℕ × Verdict) → ℕ
left plan sent = (length plan.plan.probes + length (reserved plan.plan)) - length sent

abbrev pub IsFollowed : PlanValue → List ℕ → List (ℕ × Verdict) → Type 0
IsFollowed plan bad sent = and_telling plan.net plan.hops plan.plan bad (left plan sent) (outcomes_of sent) ≡ follow plan.net plan.hops plan.plan bad
