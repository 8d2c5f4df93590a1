use Rattle.std.proofs.Common.{ℕ, take, Contains}
use Rattle.network_model.specs.Prefixes.{Touches}
use Rattle.plan_build.proofs.rebuilding.is_unchanged.Given as goal

-- the terminal's packets come to none of the boxes so far
abbrev pub invariant-loop-at : goal.invariant-loop-at
invariant-loop-at l = (box : ℕ) → Contains (take l.at-index l.changed) box → Touches l.old.net l.old.hops l.t box → ⊥
