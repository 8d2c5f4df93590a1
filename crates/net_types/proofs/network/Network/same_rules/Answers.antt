use Rattle.std.proofs.Common.{◌≡◌, true}
use Rattle.list_laws.proofs.Pairs.{AllPairs-map}
use Rattle.network_model.specs.Network.{precedes}
use Rattle.net_types.specs.Rules.{numbered}
use Rattle.net_types.proofs.Sames.{maps_from_zip, zip_from_maps}
use Rattle.net_types.proofs.SameParts.{same_rules, rule_lists}
use Rattle.net_types.proofs.network.Network.same_rules.Goals as goal

pub returns : goal.returns
returns c =
    let here = c.rules_at.ensures in
    let there = c.rules_at-2.ensures in (
      λ holds. same_rules c.args.self.now.rules c.args.other.now.rules c.args.b _ _ here.all there.all
          (maps_from_zip numbered _ _ (c.all_same.ensures.0 holds)),
      λ each. c.all_same.ensures.1 (zip_from_maps numbered _ _
          (rule_lists c.args.self.now.rules c.args.other.now.rules c.args.b _ _ here.all there.all
          (AllPairs-map numbered (λ a b. precedes a b ≡ true) _ here.order) (AllPairs-map numbered (λ a b. precedes a b ≡ true) _ there.order) each)),
    )
