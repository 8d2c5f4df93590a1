use Rattle.std.proofs.Common.{◌-◌, length, map}
use Rattle.std.specs.String.{string_bytes}
use Rattle.command_line.specs.Table.{named}
use Rattle.command_line.proofs.GoodPairs.{ArePairsTo}
use Rattle.command_line.proofs.pairs.judge.Given as goal

abbrev pub invariant-loop-at : goal.invariant-loop-at
invariant-loop-at l = ArePairsTo (map named l.names) (map string_bytes l.words) l.at

abbrev pub decreases-loop-at : goal.decreases-loop-at
decreases-loop-at l = length l.words - l.at
