use Rattle.std.proofs.Common.{sym, subst}
use Rattle.frontier_waves.specs.Starts.{ArePicked}
use Rattle.frontier_waves.proofs.Picks.{picks}
use Rattle.frontier_waves.proofs.search.picked.Goals as goal

pub returns : goal.returns
returns c =
    subst (λ cs. ArePicked c.args.net.now c.args.from.now cs) (sym c.listed.ensures)
    (picks c.args.net.now c.args.from.now c.in_ok-all.all.items c.in_ok-all.ensures)
