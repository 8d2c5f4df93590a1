use Rattle.std.proofs.Common.{◌≡◌, ◌-◌, length, IfSome}
use Rattle.policy_check.specs.Narrowing.{IsNarrowed}
use Rattle.policy_check.proofs.Following.{IsDone}
use Rattle.policy_check.proofs.search.+lower_part.Given as goal

abbrev pub decreases-lower_part : goal.decreases-lower_part
decreases-lower_part l = l.left

abbrev pub invariant-loop-branch : goal.invariant-loop-branch
invariant-loop-branch l = record {
  width : IfSome l.least (λ h. length h ≡ l.net.width);
  narrowed : IsNarrowed (IsDone l.net l.policy (l.left - 1) l.part l.yielded) l.fn.least l.least;
}
