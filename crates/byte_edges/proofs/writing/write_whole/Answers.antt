use Rattle.std.proofs.Common.{◌≤◌, length, take, drop, arith, length-drop, ◌∙◌}
use Rattle.byte_edges.specs.Writing.{Took}
use Rattle.byte_edges.proofs.Pieces.{rest_whole}
use Rattle.byte_edges.proofs.Written.{took_more}
use Rattle.byte_edges.proofs.writing.write_whole.Goals as goal

pub loop-written-preserved : goal.loop-written-preserved
loop-written-preserved g c =
    let bytes = c.args.bytes.now in
    let written = c.loop-written.written in
    let n = c.in-Ok.n in
    let room : n ≤ length (drop written bytes) = rw rest_whole at c.in-Ok.ensures.within in
    let piece : Took (g.K.Sink.taken c.loop-written.sink) (g.K.Sink.taken c.write.new.self) (take n (drop written bytes)) = rw rest_whole at c.in-Ok.ensures.took in
    record {
      within = omega (arith, length-drop written bytes);
      took = took_more _ _ _ bytes written n c.loop-written.invariant.took piece;
      steady = c.in-Ok.ensures.steady ∙ c.loop-written.invariant.steady;
      aside = c.in-Ok.ensures.aside ∙ c.loop-written.invariant.aside;
    }
