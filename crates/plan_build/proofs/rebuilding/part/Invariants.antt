use Rattle.std.proofs.Common.{take}
use Rattle.plan_build.specs.Keeping.{numbers_of, AreParted}
use Rattle.plan_build.proofs.rebuilding.part.Given as goal

-- the terminals so far are parted
abbrev pub invariant-loop-place : goal.invariant-loop-place
invariant-loop-place l = AreParted l.old l.net l.hops (take l.place (numbers_of l.net)) l.kept.items l.others.items
