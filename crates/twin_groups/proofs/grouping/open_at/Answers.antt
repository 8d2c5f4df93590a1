use Rattle.std.proofs.Common.{refl, sym}
use Rattle.net_types.specs.Terminals.{role_of}
use Rattle.twin_groups.proofs.Openings.{opened}
use Rattle.twin_groups.proofs.grouping.open_at.Goals as goal

pub returns-then-is_unnamed : goal.returns-then-is_unnamed
returns-then-is_unnamed c =
    opened c.args.net.now c.args.terminal c.in_ok-port.port c.in_ok-at.at (role_of c.in_ok-port.role) c.in_ok-port.ensures (sym c.if-sends.ensures) (sym c.in_ok-at.ensures)
    (c.if-is_unnamed.ensures refl)
