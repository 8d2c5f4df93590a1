use Rattle.std.proofs.Common.{◌∙◌, ◌-◌, ◌^◌, sym}
use Rattle.twin_groups.proofs.Copies.{counted_all}
use Rattle.twin_groups.proofs.copying.count_all.Goals as goal

pub loop-entry-preserved : goal.loop-entry-preserved
loop-entry-preserved c =
    c.saturating_add-count.ensures
    ∙ counted_all c.args.twins.now c.args.entries.now c.loop-entry.entry-index c.entry-item.result c.loop-entry.count c.stands_for.result (2 ^ 64 - 1) c.loop-entry-test.true
    (sym c.entry-item.is) c.loop-entry.invariant c.stands_for.ensures
