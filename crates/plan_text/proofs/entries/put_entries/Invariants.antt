use Rattle.std.proofs.Common.{◌≡◌, ◌+◌, ◌++◌, drop}
use Rattle.plan_text.specs.PlanText.{entry_lines}
use Rattle.plan_text.proofs.entries.put_entries.Given as goal

-- with the lines of the entries that are left, the text has them all
abbrev pub invariant-loop-place : goal.invariant-loop-place
invariant-loop-place l = l.text.items ++ entry_lines (l.place + 1) (drop l.place l.table) ≡ l.fn.text.items ++ entry_lines 1 l.table
