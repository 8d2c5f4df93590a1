use Rattle.std.proofs.Common.{◌≡◌, ◌-◌, ◌++◌, ◌∷◌, [], List, Option, None, Some, length, take, ap}
use Rattle.byte_edges.specs.InMemory.{LineInMemory}
use Rattle.byte_edges.proofs.Slots.{refilled_slot}
use Rattle.byte_edges.proofs.mem_door.MemDoorDoor.done.Goals as goal

pub returns-clause-back : goal.returns-clause-back
returns-clause-back c =
    let slots : List (Option LineInMemory) = c.self.inside.slots.items in
    let shown : slots ≡ c.args.self.now.slots = cc in
    let open_last : slots ≡ c.requires.before ++ None ∷ [] = cc in
    let shorter : c.pop.new.self.items ≡ take (length slots - 1) slots = rw c.self.inside.slots.ok.0 at c.pop.ensures.rest in
    ap (λ (lines : List LineInMemory). Some lines) (rw (c.push_reserved.ensures.items, shorter, ← shown) (refilled_slot slots c.requires.before c.args.conn open_last))
