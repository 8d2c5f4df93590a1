use Rattle.std.proofs.Common.{◌≡◌, List, ◌++◌, length, get_or, sym, subst, arith}
use Rattle.std.specs.List.{AllZip}
use Rattle.atpgd.specs.declared.serve.Worker.{Worker}
use Rattle.atpgd.specs.Doors.{door_side, line_sides}
use Rattle.atpgd.specs.Serving.{IsWorked}
use Rattle.atpgd.proofs.Zipped.{zipped, written_back}
use Rattle.atpgd.proofs.serve.serve.Goals as goal

pub returns-clause-worked : goal.returns-clause-worked
returns-clause-worked g c =
    let R = IsWorked (door_side g.D.Door.lines g.D.Door.back g.D.Door.faults g.D.Door.given g.D.Door.shut)
    (line_sides g.D.Conn.Source.left g.D.Conn.Source.given g.D.Conn.Source.ends g.D.Conn.Source.faults g.D.Conn.Sink.taken g.D.Conn.Sink.faults) c.args.opts.now in
    let lent : List (Worker _) = c.as_mut_slice.result.now in
    let new : List (Worker _) = c.for_each_mut.new.s in
    let both : AllZip R lent new =
    zipped R lent new (sym c.for_each_mut.auto.s) (λ i d inside.
    let at = (c.for_each_mut.ensures i d inside).1 in
    subst (λ (x : Worker _). R x (get_or new i d)) at.argument_is (subst (λ (y : Worker _). R at.argument.now y) at.left at.call.0))
    in
    let size : c.args.workers.now.len ≡ length new = omega (arith, c.for_each_mut.auto.s, c.as_mut_slice.ensures.len) in
    subst (λ (l : List (Worker _)). AllZip R c.args.workers.now.items l) (sym (written_back c.args.workers.now.len new c.args.workers.now.items size))
    (subst (λ (l : List (Worker _)). AllZip R l new) c.as_mut_slice.ensures.value both)
