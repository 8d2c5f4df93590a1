use Rattle.std.specs.List.{All}
use Rattle.std.proofs.Common.{◌≡◌, rules, arith}
use Rattle.desk_turns.specs.Shared.{PassValue}
use Rattle.atpgd.specs.declared.serve.Worker.{Worker}
use Rattle.atpgd.proofs.Hosts.{of_workers}
use Rattle.atpgd.proofs.daemon.host.Goals as goal

pub serve-requires-clause-desk : goal.serve-requires-clause-desk
serve-requires-clause-desk g c =
    let all : All (λ (w : Worker g.row.H-Made.Denot). w.pass.desk.table ≡ c.args.ready.desk.table) c.in-Ok.workers.items =
    of_workers g.row.H-Made.Denot (λ (p : PassValue). p.desk.table ≡ c.args.ready.desk.table) c.in-Ok.workers.items c.args.ready.passes.items c.in-Ok.ensures.passes c.requires.passes in
    first_of (search (rules, all), grind (arith, all))
