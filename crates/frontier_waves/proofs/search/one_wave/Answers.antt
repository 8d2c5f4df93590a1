use Rattle.std.proofs.Common.{◌≤◌, ◌+◌, ℕ, List, IfOk, sym, subst}
use Rattle.class_tree.specs.declared.class.Class.{Class}
use Rattle.frontier_waves.specs.Waves.{HasSearched}
use Rattle.frontier_waves.proofs.search.one_wave.Goals as goal

pub returns-clause-further : goal.returns-clause-further
returns-clause-further g c =
    subst (λ (wave : List Class). IfOk c.gather.result (λ next. (terminals : List ℕ) (depth : ℕ) → depth + c.args.stride ≤ c.args.hops
    → HasSearched c.args.net.now c.args.hops c.args.twins.now terminals depth c.args.frontier.found wave
    → HasSearched c.args.net.now c.args.hops c.args.twins.now terminals (depth + c.args.stride) next.found next.wave.items))
    c.as_slice-2.ensures.value c.gather.ensures.further

pub returns-clause-full : goal.returns-clause-full
returns-clause-full g c most h =
    let full = c.gather.ensures.full most h in
    (full.0, λ terminals depth few is. full.1 terminals depth few (subst (λ (wave : List Class). HasSearched c.args.net.now c.args.hops c.args.twins.now terminals depth c.args.frontier.found wave) (sym c.as_slice-2.ensures.value) is))
