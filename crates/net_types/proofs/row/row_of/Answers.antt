use Rattle.std.proofs.Common.{ap, sym, ◌∙◌, Some}
use Rattle.net_types.proofs.Rows.{found_at, found_nowhere}
use Rattle.net_types.proofs.row.row_of.Goals as goal

pub returns-in-Ok : goal.returns-in-Ok
returns-in-Ok g c =
    ap Some c.index-rows-i.is ∙ sym (found_at g.T.Row.number c.args.rows.now c.requires c.args.number c.in-Ok.i _ c.in-Ok.ensures.found)

pub returns-in-Err : goal.returns-in-Err
returns-in-Err g c = sym (found_nowhere g.T.Row.number c.args.rows.now c.args.number _ c.in-Err.ensures.gap)
