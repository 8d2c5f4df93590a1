use Rattle.std.proofs.Common.{◌∙◌, ◌-◌, ◌^◌, map, min, sym, ap}
use Rattle.std.proofs.lemmas.List.{take_all}
use Rattle.twin_laws.specs.Shared.{weight_of, total}
use Rattle.frontier_waves.specs.Waves.{bare_path}
use Rattle.frontier_waves.proofs.TwinSearch.{counted_more}
use Rattle.frontier_waves.proofs.frontier.count.Goals as goal

pub loop-start-preserved : goal.loop-start-preserved
loop-start-preserved c =
    c.saturating_add-count.ensures
    ∙ counted_more c.args.twins.now c.args.starts.now c.loop-start.start-index c.start-item.result c.loop-start.count c.stands_for.result c.loop-start-test.true (sym c.start-item.is)
    c.loop-start.invariant c.stands_for.ensures

pub returns : goal.returns
returns c =
    c.loop-start.invariant
    ∙ ap (λ cs. min (total (weight_of c.args.twins.now) (map bare_path cs)) (2 ^ 64 - 1)) (take_all c.loop-start.start-index c.args.starts.now c.loop-start-test.false)
