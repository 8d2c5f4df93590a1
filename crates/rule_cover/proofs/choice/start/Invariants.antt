use Rattle.std.proofs.Common.{◌≡◌, length, map, take}
use Rattle.rule_cover.proofs.choice.start.Given as goal

abbrev pub invariant-loop-row : goal.invariant-loop-row
invariant-loop-row l = l.kept.items ≡ map length (take l.row l.lists.lists)
