use Rattle.std.proofs.Common.{◌≡◌, length}
use Rattle.class_tree.proofs.Taking.{IsMidway}
use Rattle.class_tree.proofs.growth.take_class.Given as goal

-- the branches so far are taken, and the iterator has the others
abbrev pub invariant-loop-branch : goal.invariant-loop-branch
invariant-loop-branch l =
    IsMidway l.net l.hops l.class l.limit l.initial.branch-iterator.rest.items l.yielded l.branch-iterator.rest.items l.fn.grown l.grown
    × (l.branch-iterator.rest.len ≡ length l.branch-iterator.rest.items)
