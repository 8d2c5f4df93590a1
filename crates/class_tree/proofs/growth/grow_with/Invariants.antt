use Rattle.std.proofs.Common.{◌≤◌, length}
use Rattle.class_tree.specs.Growth.{IsGrown}
use Rattle.class_tree.proofs.growth.grow_with.Given as goal

-- the class is grown by as many rules as there were rounds
abbrev pub invariant-loop : goal.invariant-loop
invariant-loop l = IsGrown l.net l.hops l.class l.counter l.grown × (length l.grown.found.items ≤ l.limit)
