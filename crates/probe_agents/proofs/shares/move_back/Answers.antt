use Rattle.std.proofs.Common.{List, sym, subst, arith}
use Rattle.probe_agents.specs.declared.shares.Slot.{Slot}
use Rattle.probe_agents.specs.Slots.{MovesBack}
use Rattle.probe_agents.proofs.Moves.{moves_more}
use Rattle.probe_agents.proofs.shares.move_back.Goals as goal

pub loop-slot-preserved : goal.loop-slot-preserved
loop-slot-preserved g c =
    let all = c.args.slots.items in
    let links = c.args.links.now.items in
    let shots = c.args.shots.now.items in
    let left = c.pop.new.self.items in
    let add = c.add_shots-enough in
    record {
      moved = subst (λ (ls : List _). MovesBack all left links ls shots add.new.shots.items add.result) (sym c.push_reserved.ensures.items)
          (moves_more _ all left c.in-Some.slot links c.loop-slot.links.items shots c.loop-slot.shots.items add.new.shots.items c.loop-slot.enough add.result
          (subst (λ (ss : List (Slot _)). MovesBack all ss links c.loop-slot.links.items shots c.loop-slot.shots.items c.loop-slot.enough) c.in-Some.ensures.items c.loop-slot.invariant.moved)
          add.ensures);
      room = omega (arith, c.in-Some.ensures.cases);
    }
