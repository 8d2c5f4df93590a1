use Rattle.std.specs.Result.{is_ok}
use Rattle.std.proofs.Common.{◌<◌, ◌∙◌, length, arith}
use Rattle.frontier_waves.proofs.Drawing.{one_more}
use Rattle.frontier_waves.proofs.workers.work.Goals as goal

pub loop-number-preserved : goal.loop-number-preserved
loop-number-preserved g c =
    let inside : c.in-Some.number < length c.args.wave.now = omega (arith, c.in-Some.ensures.number.0, c.requires.board) in
    record {
      seat = c.in-Some.ensures.board ∙ c.loop-number.invariant.seat;
      jobs = one_more c.args.net.now c.args.hops c.args.stride c.args.wave.now c.index-wave-number.result (record { number = c.in-Some.number; grown = c.in-Ok.grown }) c.loop-number.slot.jobs.items
          c.push.new.self.items (is_ok c.push.result) c.loop-number.invariant.jobs inside c.index-wave-number.is c.in-Ok.ensures.grown c.push.ensures.items;
    }
