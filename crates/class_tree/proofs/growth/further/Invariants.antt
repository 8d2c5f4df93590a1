use Rattle.std.proofs.Common.{ℕ, ◌≤◌, length, take}
use Rattle.class_tree.specs.declared.class.Class.{Class}
use Rattle.class_tree.specs.Growth.{IsGrown}
use Rattle.class_tree.specs.Among.{HasJoined}
use Rattle.class_tree.proofs.Levels.{IsBetween, IsBoxOf}
use Rattle.class_tree.proofs.growth.further.Given as goal

-- the classes so far are taken, and their boxes have joined
abbrev pub invariant-loop-class : goal.invariant-loop-class
invariant-loop-class l =
    ((base : Class) (depth : ℕ) → IsGrown l.net l.hops base depth l.fn.grown → IsBetween l.net l.hops base depth l.fn.grown.rest.items l.class-index l.next)
    × HasJoined (IsBoxOf l.net (take l.class-index l.fn.grown.rest.items)) l.fn.grown.touched.items l.next.touched.items
    × (length l.fn.grown.found.items ≤ l.limit → length l.next.found.items ≤ l.limit)
