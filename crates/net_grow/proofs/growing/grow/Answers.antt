use Rattle.std.proofs.Common.{◌≡◌, ◌∙◌, arith}
use Rattle.std.proofs.lemmas.Result.{IfOk-weaker}
use Rattle.network_model.specs.Network.{Network}
use Rattle.net_grow.specs.Generated.{grown}
use Rattle.net_grow.specs.Words.{generator}
use Rattle.net_grow.proofs.Taking.{takes_first, takes_later}
use Rattle.net_grow.proofs.Whole.{whole}
use Rattle.net_grow.proofs.growing.grow.Goals as goal

pub add_outward-requires : goal.add_outward-requires
add_outward-requires c = takes_first c.in_ok-net.net c.in_ok-net.ensures

pub add_core-requires : goal.add_core-requires
add_core-requires c = takes_later c.add_outward.new.net 2024 3000 (omega arith) c.in_ok-add_outward.ensures.takes

pub add_inward-requires : goal.add_inward-requires
add_inward-requires c = takes_later c.add_core.new.net 3016 4000 (omega arith) c.in_ok-add_core.ensures.takes

pub returns : goal.returns
unfolding generator
returns c =
    let all : c.add_inward.new.net ≡ grown c.args.seed =
    whole c.in_ok-net.net c.add_outward.new.net c.add_core.new.net c.add_inward.new.net c.new-words.result c.add_outward.new.words c.args.seed
    c.in_ok-net.ensures c.new-words.ensures c.in_ok-add_outward.ensures.rules c.in_ok-add_outward.ensures.words c.in_ok-add_core.ensures.rules
    c.in_ok-add_inward.ensures.rules c.in_ok-add_inward.ensures.takes.has_places
    in
    IfOk-weaker c.finish.result (λ (n : Network). n ≡ c.add_inward.new.net) (λ (n : Network). n ≡ grown c.args.seed) (λ n is. is ∙ all) c.finish.ensures
