-- What a desk keeps beside its log, as plain values.
--     PostedValue    a plan, and of each of its entries the verdict and who noted its latest departure
--     RoundValue     an open round: its number, the network and version at its opening, and its plan if there is one
--     RoundsValue    the network now, how many rounds were opened, and those that are open
--     at_entry       what a list has for an entry, by its number from 1
use Rattle.std.specs.Prelude.{ℕ, zero, suc, List, Option, None, slice_index_or}
use Rattle.rule_cover.specs.PlanValue.{PlanValue}
use Rattle.net_versions.specs.VersionsValue.{VersionsValue}
use Rattle.suspect_book.specs.declared.verdict.Verdict.{Verdict}

pub record PostedValue : Type 0 where
  pub plan : PlanValue
  pub verdicts : List (Option Verdict)
  pub senders : List (Option ℕ)

pub record RoundValue : Type 0 where
  pub number : ℕ
  pub pinned : VersionsValue
  pub posted : Option PostedValue

pub record RoundsValue : Type 0 where
  pub now : VersionsValue
  pub opened : ℕ
  pub open_rounds : List RoundValue

abbrev pub sender_at : List (Option ℕ) → ℕ → Option ℕ
sender_at senders zero = None
sender_at senders (suc row) = slice_index_or senders row None
