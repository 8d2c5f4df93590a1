use Rattle.std.proofs.Common.{List, Some, ap}
use Rattle.byte_edges.specs.InMemory.{LineInMemory}
use Rattle.byte_edges.proofs.Slots.{empty_slot}
use Rattle.byte_edges.proofs.mem_door.MemDoorDoor.accept.Goals as goal

pub returns-in-Some-clause-back : goal.returns-in-Some-clause-back
returns-in-Some-clause-back c =
    ap (λ (lines : List LineInMemory). Some lines) (rw (c.push_reserved.ensures.items, c.in_ok-reserve.ensures.items, ← c.self.view_is) (empty_slot c.self.inside.slots.items))

pub returns-in-Some-clause-steady : goal.returns-in-Some-clause-steady
returns-in-Some-clause-steady c = rw (← c.self.view_is) (c.next_fails.ensures.steady c.if-next_fails.false)

pub returns-in-Some-clause-no_fall : goal.returns-in-Some-clause-no_fall
returns-in-Some-clause-no_fall c = rw (← c.self.view_is) c.next_fails.ensures.no_fall
