use Rattle.std.proofs.Common.{◌+◌, ◌<◌, ◌⊎◌, ℕ, List, length, get_or, sym, subst}
use Rattle.std.specs.List.{Contains}
use Rattle.box_step.proofs.PassingBy.{NoneTaken}
use Rattle.box_step.proofs.guided.split_by.Goals as goal

pub split_few-requires-clause-rise : goal.split_few-requires-clause-rise
split_few-requires-clause-rise c = subst (λ (ps : List ℕ). (j : ℕ) → j + 1 < length ps → get_or ps j 0 < get_or ps (j + 1) 0) (sym c.deref.ensures.value) c.in_ok-places.ensures.rise

pub split_few-requires-clause-met : goal.split_few-requires-clause-met
split_few-requires-clause-met c k own is =
    subst (λ (ps : List ℕ). Contains ps k ⊎ NoneTaken c.args.space.now c.args.rewrite.now own.pattern) (sym c.deref.ensures.value) (c.in_ok-places.ensures.met k own is)

pub split_many-requires-clause-rise : goal.split_many-requires-clause-rise
split_many-requires-clause-rise c = subst (λ (ps : List ℕ). (j : ℕ) → j + 1 < length ps → get_or ps j 0 < get_or ps (j + 1) 0) (sym c.deref-2.ensures.value) c.in_ok-places.ensures.rise

pub split_many-requires-clause-met : goal.split_many-requires-clause-met
split_many-requires-clause-met c k own is =
    subst (λ (ps : List ℕ). Contains ps k ⊎ NoneTaken c.args.space.now c.args.rewrite.now own.pattern) (sym c.deref-2.ensures.value) (c.in_ok-places.ensures.met k own is)
