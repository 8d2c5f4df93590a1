use Rattle.std.proofs.Common.{◌≡◌, map, drop}
use Rattle.atpgd.specs.Hosting.{status_of}
use Rattle.atpgd.specs.declared.serve.Worker.{Worker}
use Rattle.atpgd.proofs.daemon.status_of.Given as goal

-- those before decide nothing
abbrev pub invariant-loop-worker : goal.invariant-loop-worker
invariant-loop-worker g l = status_of (map (λ (w : Worker _). w.ended) l.workers) ≡ status_of (map (λ (w : Worker _). w.ended) (drop l.worker-index l.workers))
