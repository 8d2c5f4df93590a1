use Rattle.std.proofs.Common.{length, ap, ◌∙◌}
use Rattle.std.proofs.lemmas.List.FromFn.{length-map-range_with_len}
use Rattle.desk_turns.specs.Shared.{fresh}
use Rattle.desk_turns.specs.Passes.{desk_id}
use Rattle.desk_turns.proofs.shared.SharedDesk.of_desk.Goals as goal

pub returns-clause-len : goal.returns-clause-len
returns-clause-len c =
    let shared = c.in_ok-table.table.shared in
    c.in_ok-passes.passes.ok.0 ∙ (ap length c.in_ok-passes.ensures ∙ length-map-range_with_len (fresh (desk_id shared.table_id shared.key)) 1 c.args.seats)
