use Rattle.std.specs.Prelude.{MatchOption}
use Rattle.std.proofs.Common.{◌≢◌, ℕ, List, Option, subst}
use Rattle.probe_agents.specs.declared.shot.Shot.{Shot}
use Rattle.probe_agents.specs.Seeing.{seen, Seen, Gave}
use Rattle.probe_agents.specs.Firing.{EndsAs}
use Rattle.probe_agents.proofs.Waits.{passed_more}
use Rattle.probe_agents.proofs.waiting.wait_for.Goals as goal

pub loop-stray-preserved : goal.loop-stray-preserved
loop-stray-preserved g c =
    let see = seen g.L.Link.waiting g.L.Link.adds g.L.Link.faults g.L.Link.sent g.L.Link.given g.L.Link.dry in
    let old : Seen = see c.loop-stray.link in
    let new : Seen = see c.take_one.new.link in
    let stray = subst (λ (o : Option Shot). MatchOption o ((bytes : List ℕ) × (bytes ≢ c.args.awaited.now) × Gave c.args.term bytes old new) (EndsAs c.args.term c.args.awaited.now 0 old new)) c.in_default.is c.in_ok-shot.ensures.ends in
    passed_more c.args.term c.args.awaited.now c.loop-stray._stray _ old new c.loop-stray.invariant stray
