use Rattle.std.proofs.Common.{map, sym}
use Rattle.path_table.specs.Entries.{entry_of}
use Rattle.twin_groups.proofs.Copies.{copied_twin}
use Rattle.twin_groups.proofs.copying.copies.Goals as goal

pub loop-twin-preserved : goal.loop-twin-preserved
loop-twin-preserved c =
    copied_twin c.args.twins.now c.loop-twin.twin-index c.twin-item.result c.args.entries.now c.beginning_at.result.now (map entry_of c.loop-twin.more.items) (map entry_of c.add_copies.new.more.items)
    c.loop-twin-test.true (sym c.twin-item.is) c.beginning_at.ensures c.loop-twin.invariant c.in_ok-add_copies.ensures
