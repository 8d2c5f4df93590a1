use Rattle.std.proofs.Common.{◌≡◌, ◌++◌, map}
use Rattle.atpgd.specs.Doors.{AreOpened}
use Rattle.atpgd.specs.declared.serve.Worker.{Worker}
use Rattle.atpgd.proofs.daemon.workers_of.Given as goal

-- a worker for each pass so far, over the doors that were opened so far
abbrev pub invariant-loop-pass : goal.invariant-loop-pass
invariant-loop-pass g l =
    (goal.iterator-loop-pass g).can_next l.pass-iterator
    × (goal.iterator-loop-pass g).is_finite l.pass-iterator
    × (map (λ (w : Worker _). w.pass) l.workers.items ++ l.pass-iterator.rest.items ≡ l.fn.passes.items)
    × AreOpened (g.H.Harbour.doors l.fn.harbour) (map (λ (w : Worker _). w.door) l.workers.items) (g.H.Harbour.doors l.harbour)
    × (g.H.Harbour.faults l.harbour ≡ g.H.Harbour.faults l.fn.harbour)
