use Rattle.probe_agents.specs.Seeing.{seen}
use Rattle.probe_agents.proofs.Waits.{HasPassed}
use Rattle.probe_agents.proofs.waiting.wait_for.Given as goal

abbrev pub invariant-loop-stray : goal.invariant-loop-stray
invariant-loop-stray g l =
    HasPassed l.term l.awaited l._stray (seen g.L.Link.waiting g.L.Link.adds g.L.Link.faults g.L.Link.sent g.L.Link.given g.L.Link.dry l.initial.link)
    (seen g.L.Link.waiting g.L.Link.adds g.L.Link.faults g.L.Link.sent g.L.Link.given g.L.Link.dry l.link)
