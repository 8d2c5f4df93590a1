use Rattle.std.proofs.Common.{◌≡◌, take}
use Rattle.atpg.proofs.faults.rules_of.Given as goal

abbrev pub invariant-loop-number : goal.invariant-loop-number
invariant-loop-number l = l.rules ≡ take l.number-index l.numbers
