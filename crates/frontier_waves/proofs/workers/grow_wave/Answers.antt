use Rattle.std.proofs.Common.{arith}
use Rattle.frontier_waves.proofs.workers.grow_wave.Goals as goal

pub returns : goal.returns
returns g c = c.by_number.ensures c.args.net.now c.args.hops c.args.stride c.args.wave.now (omega arith) (λ k d inside. (c.run-slots.ensures k d inside).jobs)
