use Rattle.std.proofs.lemmas.List.Sorted.{IsNonDecreasingBy-from_sort}
use Rattle.byte_edges.proofs.Failing.{none_failed, none_listed}
use Rattle.byte_edges.proofs.schedule.Schedule.new.Goals as goal

pub invariant_of-result : goal.invariant_of-result
invariant_of-result c = IsNonDecreasingBy-from_sort (λ x. x) _ c.sort_unstable.ensures.sorted

pub returns-clause-none_failed : goal.returns-clause-none_failed
returns-clause-none_failed c = none_failed c.sort_unstable.new.self.items

pub returns-clause-never : goal.returns-clause-never
returns-clause-never c = none_listed _ _ c.sort_unstable.ensures.permutation
