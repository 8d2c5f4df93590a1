use Rattle.std.proofs.Common.{◌≡◌, List, [], length, subst, arith}
use Rattle.std.specs.List.{AllZip}
use Rattle.probe_agents.specs.declared.shot.Shot.{Shot}
use Rattle.probe_agents.specs.declared.shares.Slot.{Slot}
use Rattle.probe_agents.specs.Seeing.{seen}
use Rattle.probe_agents.specs.Slots.{HasDone, MovesBack}
use Rattle.probe_agents.proofs.Moves.{written_back, ends_of}
use Rattle.probe_agents.proofs.shares.share_out.Goals as goal

pub returns : goal.returns
returns g c =
    let see = seen g.L.Link.waiting g.L.Link.adds g.L.Link.faults g.L.Link.sent g.L.Link.given g.L.Link.dry in
    let one : List (Slot _) = c.hand_out.new.slots.items in
    let two : List (Slot _) = c.run.new.slots in
    let links = c.move_back.new.links.items in
    let shots : List Shot = c.move_back.new.shots.items in
    let size : c.hand_out.new.slots.len ≡ length two = omega (arith, c.run.auto.slots, c.as_mut_slice.ensures.len) in
    let moved = subst (λ (ss : List (Slot _)). MovesBack ss [] c.hand_out.new.links.items links c.args.shots.now.items shots c.move_back.result) (written_back c.hand_out.new.slots.len two one size) c.move_back.ensures in
    let moved' = subst (λ (ls : List _). MovesBack two [] ls links c.args.shots.now.items shots c.move_back.result) c.hand_out.ensures.empty moved in
    let moved'' = subst (λ (ss : List Shot). MovesBack two [] [] links ss shots c.move_back.result) c.requires.no_shots moved' in
    ends_of _ see c.args.plan.now c.args.id c.args.entries.now c.args.links.now.items one two links shots c.move_back.result c.hand_out.ensures.handed
    (subst (λ (ss : List (Slot _)). AllZip (HasDone see c.args.plan.now c.args.id c.args.entries.now) ss two) c.as_mut_slice.ensures.value c.run.ensures) moved''
