use Rattle.std.proofs.Common.{◌≡◌, ◌∙◌}
use Rattle.std.proofs.lemmas.Result.{IfOk-at_ok}
use Rattle.network_model.specs.Building.{empty, with_box}
use Rattle.network_model.specs.Network.{Network}
use Rattle.net_grow.proofs.Begin.{start}
use Rattle.net_grow.proofs.places.places.Goals as goal

pub loop-edge-init : goal.loop-edge-init
loop-edge-init c =
    let begun : c.in_ok-net.net ≡ empty 128 = IfOk-at_ok (λ (n : Network). n ≡ empty 128) c.in_ok-net.ensures c.new.ensures.ok in
    IfOk-at_ok (λ _. c.add_box.new.self ≡ with_box c.of.result c.in_ok-net.net) c.in_ok-taken.ensures c.add_box.ensures.ok
    ∙ (λ i. with_box (c.of.ensures i) (begun i)) ∙ start
