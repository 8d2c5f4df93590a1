use Rattle.std.proofs.Common.{◌≡◌, take}
use Rattle.std.specs.List.{All}
use Rattle.net_types.specs.Tables.{IsPlaced, at_places}
use Rattle.net_types.proofs.network.places.places_of.Given as goal

abbrev pub invariant-loop-rule : goal.invariant-loop-rule
invariant-loop-rule l = record { placed : All (IsPlaced l.ordered) l.places.items; rules : at_places l.ordered l.places.items ≡ take l.rule-index l.rules }
