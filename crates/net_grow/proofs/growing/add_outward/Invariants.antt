use Rattle.std.proofs.Common.{◌≡◌, ◌+◌, ◌*◌, ◌++◌}
use Rattle.net_grow.specs.Adding.{TakesFrom}
use Rattle.net_grow.specs.Generated.{outward_some, outward_edges}
use Rattle.net_grow.specs.Words.{after, nth_word}
use Rattle.net_grow.proofs.growing.add_outward.Given as goal

abbrev pub invariant-loop-edge : goal.invariant-loop-edge
invariant-loop-edge l =
    record {
      rules : l.net.rules ≡ l.fn.net.rules ++ outward_edges (nth_word l.fn.words) l.edge;
      takes : TakesFrom l.net (1000 + 64 * l.edge);
      words : l.words ≡ after (252 * l.edge) l.fn.words;
    }

abbrev pub invariant-loop-index : goal.invariant-loop-index
invariant-loop-index l =
    record {
      rules : l.net.rules ≡ l.fn.net.rules ++ (outward_edges (nth_word l.fn.words) l.edge ++ outward_some (nth_word l.fn.words) l.index l.edge);
      takes : TakesFrom l.net (1000 + 64 * l.edge + l.index);
      words : l.words ≡ after (4 * (63 * l.edge + l.index)) l.fn.words;
    }
