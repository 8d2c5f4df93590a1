use Rattle.std.proofs.Common.{List, sym, ◌∙◌, subst, arith}
use Rattle.atomic_table.specs.Table.{Me}
use Rattle.desk_turns.specs.declared.rule.Known.{Known}
use Rattle.desk_turns.specs.Rule.{Slot, Waits}
use Rattle.desk_turns.proofs.Calls.{may_look}
use Rattle.desk_turns.proofs.turns.wait.Goals as goal

pub load-requires : goal.load-requires
load-requires g c =
    let h = c.loop.invariant in let words = c.requires.table.1 in
    let waits : Waits c.loop.seat.me c.args.place = subst (λ (m : Me Slot (List Known)). Waits m c.args.place) (sym h.3) c.requires.waits in (
      h.2 ∙ c.requires.table.0,
      omega arith,
      may_look c.args.shared.now.key c.loop.seat.id c.args.shared.now.table_id.slots c.args.place c.loop.seat.me waits,
    )
