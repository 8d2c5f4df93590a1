use Rattle.std.proofs.Common.{◌≡◌, List, length, sym, subst, arith}
use Rattle.std.specs.List.{All}
use Rattle.frontier_waves.specs.declared.workers.Slot.{Slot}
use Rattle.frontier_waves.specs.Growths.{IsSlot}
use Rattle.frontier_waves.proofs.Placing.{written_back}
use Rattle.frontier_waves.proofs.workers.run.Goals as goal

pub returns : goal.returns
returns g c =
    let P : Slot → Type 0 = IsSlot c.args.net.now c.args.hops c.args.stride c.args.wave.now c.args.board.now in
    let new : List Slot = c.for_each_mut.new.s in
    let size : c.args.slots.len ≡ length new = omega (arith, c.for_each_mut.auto.s, c.as_mut_slice.ensures.len) in
    let each : All P new = λ k d inside. let at = (c.for_each_mut.ensures k d (omega (arith, c.for_each_mut.auto.s))).1 in subst P at.left at.call in
    subst (λ (slots : List Slot). All P slots) (sym (written_back c.args.slots.len new c.args.slots.items size)) each
