-- What becomes of what is kept of a round's plan.
--     post_refusal    why a plan is not taken
--     unsent          a plan of which nothing is known yet
--     with_sender     a departure was noted
--     with_verdict    an arrival counts
--     found_in        what the verdicts tell; nothing where there is no plan
use Rattle.std.specs.Prelude.{ℕ, ◌-◌, Bool, [], ◌∷◌, length, replicate, slice_set, Option, None, Some, is_some}
use Rattle.fault_model.specs.Findings.{Findings, findings}
use Rattle.rule_cover.specs.PlanValue.{PlanValue}
use Rattle.suspect_book.specs.declared.verdict.Verdict.{Verdict}
use Rattle.suspect_book.specs.Verdicts.{outcomes}
use Rattle.desk_core.specs.declared.reply.Refusal.{Refusal}
use Rattle.desk_core.specs.declared.reply.Refusal.TheVariants.{AlreadyPosted}
use Rattle.desk_core.specs.Refusals.{when, first_of, wrong_snapshot}
use Rattle.desk_core.specs.Replies.{nothing_found}
use Rattle.desk_core.specs.RoundsValue.{PostedValue, RoundValue}

abbrev pub post_refusal : RoundValue → Bool → Option Refusal
post_refusal r fits = first_of (when (is_some r.posted) (AlreadyPosted r.number) ∷ wrong_snapshot r.number fits ∷ [])

abbrev pub unsent : PlanValue → PostedValue
unsent plan = record { plan = plan; verdicts = replicate (length plan.plan.table) None; senders = replicate (length plan.plan.table) None }

abbrev pub with_sender : ℕ → ℕ → PostedValue → PostedValue
with_sender entry caller p = record p { senders = slice_set p.senders (entry - 1) (Some caller) }

abbrev pub with_verdict : ℕ → Verdict → PostedValue → PostedValue
with_verdict entry verdict p = record p { verdicts = slice_set p.verdicts (entry - 1) (Some verdict) }

abbrev pub found_in : Option PostedValue → Findings
found_in None = nothing_found
found_in (Some p) = findings p.plan.plan (outcomes p.verdicts)
