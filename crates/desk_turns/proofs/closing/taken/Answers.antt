use Rattle.std.proofs.Common.{◌∷◌, subst}
use Rattle.desk_core.specs.DeskValue.{DeskValue}
use Rattle.desk_turns.specs.Shared.{IsClosed}
use Rattle.desk_turns.specs.Passes.{desk_id}
use Rattle.desk_turns.proofs.Ended.{found_there, not_vacant, same_desk}
use Rattle.desk_turns.proofs.closing.taken.Goals as goal

pub unreachable-requires : goal.unreachable-requires
unreachable-requires c =
    let t = c.requires.whole in let shared = c.args.table.shared in
    let end = found_there shared.table_id shared.key _ _ c.args.whole.id c.args.whole.me t.0 t.1 c.take-desk.result c.close_with-closed.ensures.values.2 t.2 t.3 c.take-desk.ensures.value in
    not_vacant c.take-desk.result end.0 end.1 c.in_default.is

pub returns : goal.returns
returns c last others me all =
    let shared = c.args.table.shared in
    let end = found_there shared.table_id shared.key _ _ c.args.whole.id c.args.whole.me last others c.take-desk.result c.close_with-closed.ensures.values.2 me all c.take-desk.ensures.value in
    subst (λ (d : DeskValue). IsClosed (desk_id shared.table_id shared.key) (last ∷ others) d) (same_desk c.take-desk.result end.0 c.in-Some.desk end.1 c.in-Some.is) end.2
