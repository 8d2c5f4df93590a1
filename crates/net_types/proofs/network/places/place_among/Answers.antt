use Rattle.std.proofs.Common.{refl}
use Rattle.net_types.proofs.Placed.{stands_there}
use Rattle.net_types.proofs.network.places.place_among.Goals as goal

pub returns-clause-placed : goal.returns-clause-placed
returns-clause-placed c =
    record { rule = c.args.rule.now; there = stands_there c.args.rule.now c.args.ordered.now c.place_in_precedence.result c.requires.order c.requires.there c.place_in_precedence.ensures; number = refl }

pub returns-clause-rule : goal.returns-clause-rule
returns-clause-rule c = (let at = stands_there c.args.rule.now c.args.ordered.now c.place_in_precedence.result c.requires.order c.requires.there c.place_in_precedence.ensures in rw at refl)
