use Rattle.std.proofs.Common.{ℕ, map, take}
use Rattle.network_model.specs.Network.{Terminal}
use Rattle.class_tree.specs.Roots.{AreAmong}
use Rattle.class_tree.proofs.starting.roots.Given as goal

-- the classes of the terminals so far
abbrev pub invariant-loop-place : goal.invariant-loop-place
invariant-loop-place l = AreAmong l.net (take l.place (map (λ (t : ℕ × Terminal). t.0) l.net.terminals)) l.classes.items
