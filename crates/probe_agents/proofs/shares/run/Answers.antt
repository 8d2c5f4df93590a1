use Rattle.std.proofs.Common.{List, get_or, sym, subst}
use Rattle.probe_agents.specs.declared.shares.Slot.{Slot}
use Rattle.probe_agents.specs.Seeing.{seen}
use Rattle.probe_agents.specs.Slots.{HasDone}
use Rattle.probe_agents.proofs.Moves.{zipped}
use Rattle.probe_agents.proofs.shares.run.Goals as goal

pub returns : goal.returns
returns g c =
    let R = HasDone (seen g.L.Link.waiting g.L.Link.adds g.L.Link.faults g.L.Link.sent g.L.Link.given g.L.Link.dry) c.args.plan.now c.args.id c.args.entries.now in
    let old : List (Slot _) = c.args.slots.now in
    let new : List (Slot _) = c.for_each_mut.new.s in
    zipped R old new (sym c.for_each_mut.auto.s) (λ i d inside.
    let at = (c.for_each_mut.ensures i d inside).1 in
    subst (λ (x : Slot _). R x (get_or new i d)) at.argument_is (subst (λ (y : Slot _). R at.argument.now y) at.left at.call))
