use Rattle.std.proofs.Common.{◌≡◌, ◌+◌, ◌*◌, ◌++◌}
use Rattle.net_grow.specs.Adding.{TakesFrom}
use Rattle.net_grow.specs.Generated.{inward_some, inward_edges}
use Rattle.net_grow.specs.Words.{after, nth_word}
use Rattle.net_grow.proofs.growing.add_inward.Given as goal

abbrev pub invariant-loop-edge : goal.invariant-loop-edge
invariant-loop-edge l =
    record {
      rules : l.net.rules ≡ l.fn.net.rules ++ inward_edges (nth_word l.fn.words) l.edge;
      takes : TakesFrom l.net (4000 + 32 * l.edge);
      words : l.words ≡ after (62 * l.edge) l.fn.words;
    }

abbrev pub invariant-loop-index : goal.invariant-loop-index
invariant-loop-index l =
    record {
      rules : l.net.rules ≡ l.fn.net.rules ++ (inward_edges (nth_word l.fn.words) l.edge ++ inward_some (nth_word l.fn.words) l.index l.edge);
      takes : TakesFrom l.net (4000 + 32 * l.edge + l.index);
      words : l.words ≡ after (2 * (31 * l.edge + l.index)) l.fn.words;
    }
