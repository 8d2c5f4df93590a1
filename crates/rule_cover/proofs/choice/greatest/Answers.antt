use Rattle.std.proofs.Common.{below_more, arith}
use Rattle.rule_cover.proofs.choice.greatest.Goals as goal
use Rattle.rule_cover.proofs.choice.greatest.Goals.{then-gain-most, else-gain-most}

pub loop-gain-preserved : goal.loop-gain-preserved
loop-gain-preserved c =
    let i = c.loop-gain.gain-index in
    let before = c.loop-gain.invariant in
    elim c.if-gain-most.branch [
      | then-gain-most w ↦ record {
        above = below_more _ _ (λ k l. omega (arith, before.above k l, w.most-is)) (omega (arith, w.most-is));
        least = λ bound h. omega (arith, h i, w.most-is);
      }
      | else-gain-most w ↦ record {
        above = below_more _ _ (λ k l. omega (arith, before.above k l, w.most-is)) (omega (arith, w.most-is));
        least = λ bound h. omega (arith, before.least bound h, w.most-is);
      }
    ]
