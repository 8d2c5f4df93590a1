use Rattle.std.proofs.Common.{List, subst, arith}
use Rattle.network_model.specs.Table.{Entry}
use Rattle.network_model.specs.Cover.{IsGreedy}
use Rattle.rule_cover.proofs.Choices.{greedy_cover}
use Rattle.rule_cover.proofs.choice.choose.Goals as goal

pub returns-clause-greedy : goal.returns-clause-greedy
returns-clause-greedy c =
    let lists = c.in_ok-lists.lists in
    let choice = c.loop-most.choice in
    subst (λ (table : List Entry). IsGreedy table choice.probes.items) c.in_ok-lists.ensures.table
    (greedy_cover lists.numbers.items lists.table.now choice.probes.items choice.covered.items choice.kept.items c.loop-most.invariant.underway (λ k. omega (arith, c.loop-most.invariant.greatest k)))
