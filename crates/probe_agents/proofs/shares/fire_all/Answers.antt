use Rattle.probe_agents.specs.Seeing.{seen}
use Rattle.probe_agents.proofs.Moves.{all_kept}
use Rattle.probe_agents.proofs.shares.fire_all.Goals as goal

pub returns-in_err-shots-clause-kept : goal.returns-in_err-shots-clause-kept
returns-in_err-shots-clause-kept g c = all_kept (seen g.L.Link.waiting g.L.Link.adds g.L.Link.faults g.L.Link.sent g.L.Link.given g.L.Link.dry) c.args.links.now.items

pub returns-in_err-spaces-clause-kept : goal.returns-in_err-spaces-clause-kept
returns-in_err-spaces-clause-kept g c = all_kept (seen g.L.Link.waiting g.L.Link.adds g.L.Link.faults g.L.Link.sent g.L.Link.given g.L.Link.dry) c.args.links.now.items

pub returns-in_err-slots-clause-kept : goal.returns-in_err-slots-clause-kept
returns-in_err-slots-clause-kept g c = all_kept (seen g.L.Link.waiting g.L.Link.adds g.L.Link.faults g.L.Link.sent g.L.Link.given g.L.Link.dry) c.args.links.now.items

pub returns-then-share_out-clause-shots : goal.returns-then-share_out-clause-shots
returns-then-share_out-clause-shots g c = c.share_out.ensures.shares c.if-share_out.true

pub returns-then-share_out-clause-kept : goal.returns-then-share_out-clause-kept
returns-then-share_out-clause-kept g c = c.share_out.ensures.kept

pub returns-then-share_out-clause-faulted : goal.returns-then-share_out-clause-faulted
returns-then-share_out-clause-faulted g c = c.share_out.ensures.faulted c.if-share_out.true

pub returns-then-share_out-clause-fields : goal.returns-then-share_out-clause-fields
returns-then-share_out-clause-fields g c = c.share_out.ensures.fields c.if-share_out.true

pub returns-else-share_out-clause-kept : goal.returns-else-share_out-clause-kept
returns-else-share_out-clause-kept g c = c.share_out.ensures.kept
