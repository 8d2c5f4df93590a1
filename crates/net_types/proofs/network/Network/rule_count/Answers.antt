use Rattle.std.proofs.Common.{arith}
use Rattle.std.proofs.lemmas.List.{length-map}
use Rattle.net_types.specs.Rules.{numbered}
use Rattle.net_types.specs.Tables.{at_places}
use Rattle.net_types.proofs.Placed.{length-at}
use Rattle.net_types.proofs.network.Network.rule_count.Goals as goal

pub returns-clause-count : goal.returns-clause-count
returns-clause-count c =
    rw (← c.self.view_is) (omega (arith, length-map (at_places c.self.inside.rules.items c.self.inside.places.items) numbered, length-at c.self.inside.rules.items c.self.inside.places.items c.self.invariant.placed))

pub returns-clause-limit : goal.returns-clause-limit
returns-clause-limit c =
    omega (arith, c.self.invariant.within.rules, length-map (at_places c.self.inside.rules.items c.self.inside.places.items) numbered, length-at c.self.inside.rules.items c.self.inside.places.items c.self.invariant.placed)
