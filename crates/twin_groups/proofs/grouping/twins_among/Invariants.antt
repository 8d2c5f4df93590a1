use Rattle.std.proofs.Common.{take}
use Rattle.twin_groups.specs.Splits.{AreSplit}
use Rattle.twin_groups.proofs.grouping.twins_among.Given as goal

-- the terminals so far are split
abbrev pub invariant-loop-terminal : goal.invariant-loop-terminal
invariant-loop-terminal l = AreSplit l.net (take l.terminal-index l.terminals) l.leads.items l.twins.items
