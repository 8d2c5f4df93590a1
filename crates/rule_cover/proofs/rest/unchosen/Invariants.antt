use Rattle.std.proofs.Common.{◌≡◌, not, nat_eq}
use Rattle.std.specs.List.{filter, list_any, range_with_len}
use Rattle.rule_cover.proofs.rest.unchosen.Given as goal

abbrev pub invariant-loop-row : goal.invariant-loop-row
invariant-loop-row l = l.rest.items ≡ filter (λ n. not (list_any (nat_eq n) l.fn.probes)) (range_with_len 1 l.row)
