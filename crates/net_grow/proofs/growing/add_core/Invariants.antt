use Rattle.std.proofs.Common.{◌≡◌, ◌+◌, ◌++◌}
use Rattle.net_grow.specs.Adding.{TakesFrom}
use Rattle.net_grow.specs.Generated.{core_rules}
use Rattle.net_grow.proofs.growing.add_core.Given as goal

abbrev pub invariant-loop-edge : goal.invariant-loop-edge
invariant-loop-edge l =
    record {
      rules : l.net.rules ≡ l.fn.net.rules ++ core_rules l.edge;
      takes : TakesFrom l.net (3000 + l.edge);
    }
