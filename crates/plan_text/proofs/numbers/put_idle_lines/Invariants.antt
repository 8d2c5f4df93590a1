use Rattle.std.proofs.Common.{◌≡◌, ◌++◌, drop, codes}
use Rattle.std.specs.List.{flat_map}
use Rattle.network_model.specs.Plan.{idle}
use Rattle.plan_text.specs.PlanText.{numbered_line}
use Rattle.plan_text.proofs.numbers.put_idle_lines.Given as goal

-- with the lines of the numbers that are left, the text has them all
abbrev pub invariant-loop-i : goal.invariant-loop-i
invariant-loop-i l = l.text.items ++ flat_map (numbered_line (codes "idle")) (drop l.i (idle l.plan.net l.plan.plan)) ≡ l.fn.text.items ++ flat_map (numbered_line (codes "idle")) (idle l.plan.net l.plan.plan)
