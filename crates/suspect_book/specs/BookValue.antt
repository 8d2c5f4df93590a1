-- A book: a plan, and a verdict for some of its entries.
--     IsKept    marks tell which rules are on passed and on failed entries
--     IsBook    a sheet has these marks, the entries on which each rule stands, and which reserved entries have no verdict
use Rattle.std.specs.Prelude.{◌≡◌, ℕ, suc, ◌<◌, Bool, true, false, ◌&&◌, List, length, slice_index_or, Option, None, Some}
use Rattle.std.specs.List.Sorted.{IsStrictlyIncreasing}
use Rattle.network_model.specs.Cover.{rules_of}
use Rattle.network_model.specs.Plan.{IsPlan, reserved}
use Rattle.rule_cover.specs.Places.{numbers_of}
use Rattle.rule_cover.specs.PlanValue.{PlanValue}
use Rattle.fault_model.specs.Outcomes.{failed, has}
use Rattle.fault_model.specs.Findings.{cleared}
use Rattle.suspect_book.specs.declared.verdict.Verdict.{Verdict}
use Rattle.suspect_book.specs.Marked.{Tells}
use Rattle.suspect_book.specs.Sheets.{SheetValue}
use Rattle.suspect_book.specs.Standings.{AreStandings}
use Rattle.suspect_book.specs.Verdicts.{verdict_at, outcomes}

pub record BookValue : Type 0 where
  pub plan : PlanValue
  pub verdicts : List (Option Verdict)

pub record IsKept (plan : PlanValue) (numbers : List ℕ) (verdicts : List (Option Verdict)) (passed_marks failed_marks : List Bool) : Type 0 where
  pub planned : IsPlan plan.net plan.hops plan.plan
  pub numbers_are : numbers ≡ numbers_of plan.net
  pub rises : IsStrictlyIncreasing numbers
  pub each : length verdicts ≡ length plan.plan.table
  pub passed_room : length passed_marks ≡ length numbers
  pub failed_room : length failed_marks ≡ length numbers
  pub passed : Tells numbers (has (cleared plan.plan.table (outcomes verdicts))) passed_marks
  pub failing : Tells numbers (has (rules_of plan.plan.table (failed (outcomes verdicts)))) failed_marks

abbrev pub is_free : Option Verdict → Bool
is_free None = true
is_free (Some verdict) = false

pub record IsBook (plan : PlanValue) (numbers : List ℕ) (verdicts : List (Option Verdict)) (sheet : SheetValue) : Type 0 where
  pub kept : IsKept plan numbers verdicts sheet.passed sheet.failed
  pub standings : AreStandings numbers plan.plan.table sheet.lists
  pub opens_room : length sheet.opens ≡ length plan.plan.table
  pub opens_are : (k : ℕ) → k < length plan.plan.table → slice_index_or sheet.opens k false ≡ (has (reserved plan.plan) (suc k) && is_free (verdict_at verdicts (suc k)))
