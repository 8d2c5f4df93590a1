use Rattle.std.proofs.Common.{false, List, refl, sym, subst, arith}
use Rattle.probe_agents.specs.declared.shares.Slot.{Slot}
use Rattle.probe_agents.specs.Slots.{HandsOut}
use Rattle.probe_agents.proofs.Moves.{hands_more}
use Rattle.probe_agents.proofs.shares.hand_out.Goals as goal

pub loop-link-preserved : goal.loop-link-preserved
loop-link-preserved g c =
    let all = c.args.links.now.items in
    let entries = c.args.entries.now in
    let left = c.pop.new.self.items in
    let slots = c.loop-link.slots.items in
    let slot : Slot g.row.L.Denot = record { link = c.in-Some.link; first = c.cut-first.result; end = c.loop-link.end; shots = c.next_space.result; wanting = false } in
    record {
      handed = subst (λ (ss : List (Slot _)). HandsOut all entries left c.cut-first.result ss) (sym c.push_reserved.ensures.items)
          (hands_more _ all entries left c.loop-link.end slots slot (subst (λ (ls : List _). HandsOut all entries ls c.loop-link.end slots) c.in-Some.ensures.items c.loop-link.invariant.handed)
          refl c.cut-first.ensures.within c.next_space.ensures.empty);
      fresh = c.next_space.ensures.others;
      count = omega (arith, c.in-Some.ensures.cases);
      room = omega arith;
      slots_room = omega arith;
      last = λ none some. c.cut-first.ensures.first (omega arith);
    }
