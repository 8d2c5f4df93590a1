use Rattle.std.proofs.Common.{◌≡◌, ℕ, ◌<◌, false, get_or}
use Rattle.net_types.specs.declared.rule.Rule.{Rule}
use Rattle.net_types.specs.Tables.{takes_packet}
use Rattle.net_types.proofs.network.hit.first_taking.Given as goal

abbrev pub invariant-loop-rule : goal.invariant-loop-rule
invariant-loop-rule l = (j : ℕ) (d : Rule) → j < l.rule-index → takes_packet l.port l.header (get_or l.rules j d) ≡ false
