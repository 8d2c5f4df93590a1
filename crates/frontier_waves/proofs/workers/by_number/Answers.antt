use Rattle.std.proofs.Common.{◌≡◌, ◌∙◌, List, length, sym, subst, arith}
use Rattle.std.specs.Prelude.{Option}
use Rattle.class_tree.specs.declared.growth.Grown.{Grown}
use Rattle.frontier_waves.specs.Growths.{AreReady}
use Rattle.frontier_waves.proofs.Placing.{none_ready, written_back}
use Rattle.frontier_waves.proofs.workers.by_number.Goals as goal

pub returns : goal.returns
returns c net hops stride wave long each =
    let places = c.in_ok-places.places in
    let none : List (Option Grown) = c.as_mut_slice.result.now in
    let new : List (Option Grown) = c.place_slots.new.places in
    let before : AreReady net hops stride wave none =
    subst (λ (ps : List (Option Grown)). AreReady net hops stride wave ps) (sym (c.as_mut_slice.ensures.value ∙ c.in_ok-places.ensures)) (none_ready net hops stride wave c.args.count long) in
    let ready : AreReady net hops stride wave new = c.place_slots.ensures net hops stride wave each before in
    let size : places.len ≡ length new = omega (arith, before.count, ready.count, c.as_mut_slice.ensures.len) in
    subst (λ (ps : List (Option Grown)). AreReady net hops stride wave ps) (sym (written_back places.len new places.items size)) ready
