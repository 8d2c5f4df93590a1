use Rattle.std.specs.String.{string_bytes}
use Rattle.std.proofs.Common.{map}
use Rattle.atpg.proofs.SessionRuns.{refused_session, served_session}
use Rattle.atpg.proofs.serving.run_session.Goals as goal

pub returns-in-Ok : goal.returns-in-Ok
returns-in-Ok g c =
    served_session (map string_bytes c.args.words.now) g.S.Source.left g.S.Source.given g.S.Source.ends g.S.Source.faults g.K.Sink.taken g.K.Sink.faults c.in-Ok.limits c.args.source.now c.serve_source.new.source c.args.sink.now c.serve_source.new.sink c.serve_source.result c.in-Ok.ensures.ok c.serve_source.ensures.so c.serve_source.ensures.write_fault

pub returns-in-Err : goal.returns-in-Err
returns-in-Err g c =
    refused_session (map string_bytes c.args.words.now) g.S.Source.left g.S.Source.given g.S.Source.ends g.S.Source.faults g.K.Sink.taken g.K.Sink.faults c.args.source.now c.args.sink.now c.in-Err.at c.in-Err.ensures.err
