use Rattle.std.proofs.Common.{◌≡◌, false, take, eqb}
use Rattle.std.specs.List.{list_any}
use Rattle.policy_check.proofs.reading.has_box.Given as goal

-- none of the boxes so far is the one asked for
abbrev pub invariant-loop-place : goal.invariant-loop-place
invariant-loop-place l = list_any (eqb l.asked) (take l.place l.net.boxes) ≡ false
