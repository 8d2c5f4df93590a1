use Rattle.std.specs.String.{string_bytes}
use Rattle.std.specs.List.{range_with_len}
use Rattle.std.proofs.Common.{map, refl, rules, arith}
use Rattle.atpgd.proofs.Hosts.{fresh_ones, refused_daemon, served_daemon}
use Rattle.atpgd.proofs.daemon.daemon.Goals as goal

pub host-requires-clause-passes : goal.host-requires-clause-passes
host-requires-clause-passes g c =
    let all = fresh_ones c.in-Ok.ready.desk c.in-Ok.ready.passes.items (range_with_len 1 c.in-Ok.ready.opts.seats) c.in-Ok.ensures.ok.passes_are in
    first_of (search (rules, all), grind (arith, all))

pub returns-in-Ok : goal.returns-in-Ok
returns-in-Ok g c =
    served_daemon (map string_bytes c.args.words.now) g.S.Source.left g.S.Source.given g.S.Source.ends g.S.Source.faults g.H.Harbour.doors g.H.Harbour.faults _ _ c.args.source.now c.ready.new.source c.args.harbour.now c.host.new.harbour
    c.in-Ok.ready.opts c.in-Ok.ready.desk c.in-Ok.ready.passes.items c.host.result.0 c.host.result.1 c.in-Ok.ensures.ok c.host.ensures.some c.host.ensures.none

pub returns-in-Err : goal.returns-in-Err
returns-in-Err g c =
    refused_daemon (map string_bytes c.args.words.now) g.S.Source.left g.S.Source.given g.S.Source.ends g.S.Source.faults g.H.Harbour.faults c.args.source.now c.ready.new.source c.args.harbour.now c.args.harbour.now c.in-Err.status c.in-Err.ensures.err refl
