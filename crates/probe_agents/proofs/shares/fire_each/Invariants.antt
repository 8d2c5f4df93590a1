use Rattle.std.proofs.Common.{take}
use Rattle.probe_agents.specs.Seeing.{seen}
use Rattle.probe_agents.proofs.Answered.{HasAnswered}
use Rattle.probe_agents.proofs.shares.fire_each.Given as goal

abbrev pub invariant-loop-entry : goal.invariant-loop-entry
invariant-loop-entry g l =
    HasAnswered l.plan l.id (take l.entry-index l.entries) l.shots.items (seen g.L.Link.waiting g.L.Link.adds g.L.Link.faults g.L.Link.sent g.L.Link.given g.L.Link.dry l.initial.link)
    (seen g.L.Link.waiting g.L.Link.adds g.L.Link.faults g.L.Link.sent g.L.Link.given g.L.Link.dry l.link)
