-- Which calls on a form in memory fail.
use Rattle.std.specs.Prelude.{ℕ, ◌+◌, ◌-◌, ◌^◌, ◌<◌, ◌&&◌, List, count_by, min, nat_lt, nat_le, Contains}

-- the numbers of the calls that fail, counted from 1, and how many calls there were
pub record Plan : Type 0 where
  pub fails : List ℕ
  pub calls : ℕ

-- how many of the listed numbers are those of calls that were made
abbrev pub failed : Plan → ℕ
failed plan = count_by (λ n. nat_lt 0 n && nat_le n plan.calls) plan.fails

-- the next call is listed
abbrev pub NextFails : Plan → Type 0
NextFails plan = (plan.calls + 1 < 2 ^ 64) × Contains plan.fails (plan.calls + 1)

-- after one more call, whose number stops at 2^64 - 1
abbrev pub called : Plan → Plan
called plan = record { fails = plan.fails; calls = min (plan.calls + 1) (2 ^ 64 - 1) }
