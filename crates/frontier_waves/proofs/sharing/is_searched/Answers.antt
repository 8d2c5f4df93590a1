use Rattle.std.proofs.Common.{ℕ, ap, rules, tests}
use Rattle.std.specs.Prelude.{nat_eq, not}
use Rattle.std.proofs.lemmas.Iterator.{YieldsList-from_slice}
use Rattle.std.proofs.lemmas.Iterator.Search.{any_from_yields_List}
use Rattle.frontier_waves.proofs.sharing.is_searched.Goals as goal

pub returns : goal.returns
returns c =
    ap not
    (any_from_yields_List (λ (t : ℕ × ℕ). nat_eq t.1 c.args.terminal) _ _ _ c.any.ensures.ran (YieldsList-from_slice c.args.twins.now cc)
    (λ x b q k. search (rules, tests)))
