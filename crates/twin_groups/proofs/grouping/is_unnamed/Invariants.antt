use Rattle.std.proofs.Common.{◌≡◌, ℕ, false, ◌<◌, get_or}
use Rattle.net_types.specs.declared.rule.Rule.{Rule}
use Rattle.net_types.specs.Rules.{in_port}
use Rattle.twin_groups.specs.Splits.{names_port}
use Rattle.twin_groups.proofs.grouping.is_unnamed.Given as goal

-- the rules so far don't name the port
abbrev pub invariant-loop-rule : goal.invariant-loop-rule
invariant-loop-rule l = (k : ℕ) (d : Rule) → k < l.rule-index → names_port (in_port (get_or l.rule-items k d).inp) l.port ≡ false
