use Rattle.frontier_waves.proofs.Placing.{placed_next, long_next, inside_next}
use Rattle.std.proofs.Common.{length}
use Rattle.frontier_waves.proofs.workers.place_all.Goals as goal

pub loop-job-preserved : goal.loop-job-preserved
loop-job-preserved c =
    let h = c.loop-job.invariant in
    let next = c.in-Some.ensures.steps.0 in
    let rest = c.next.new.self.rest.items in
    let all = c.loop-job.job-iterator.rest.items in (
      tt,
      tt,
      long_next (length c.args.places.now) c.loop-job.places c.in-Some.job h.2,
      inside_next (length c.args.places.now) c.in-Some.job rest all next h.3,
      λ net hops stride wave jobs ready. placed_next net hops stride wave c.loop-job.places c.in-Some.job rest all next (h.4 net hops stride wave jobs ready),
    )

pub loop-job-preserved-in-Some : goal.loop-job-preserved-in-Some
loop-job-preserved-in-Some c =
    let h = c.loop-job.invariant in
    let next = c.in-Some.ensures.steps.0 in
    let rest = c.next.new.self.rest.items in
    let all = c.loop-job.job-iterator.rest.items in (
      tt,
      tt,
      long_next (length c.args.places.now) c.loop-job.places c.in-Some.job h.2,
      inside_next (length c.args.places.now) c.in-Some.job rest all next h.3,
      λ net hops stride wave jobs ready. placed_next net hops stride wave c.loop-job.places c.in-Some.job rest all next (h.4 net hops stride wave jobs ready),
    )

pub returns : goal.returns
returns c net hops stride wave jobs ready = (c.loop-job.invariant.4 net hops stride wave jobs ready).0
