use Rattle.std.proofs.Common.{◌≡◌, ℕ, Bool, not, drop}
use Rattle.std.specs.List.{find}
use Rattle.trial_run.specs.Trial.{is_in, first_unknown}
use Rattle.trial_run.proofs.unknown.first_unknown.Given as goal

-- what is found among the rules that are left is the answer
abbrev pub invariant-loop-rule : goal.invariant-loop-rule
invariant-loop-rule l = find (λ r. not (is_in l.net r)) (drop l.rule-index l.rules) ≡ first_unknown l.net l.rules
