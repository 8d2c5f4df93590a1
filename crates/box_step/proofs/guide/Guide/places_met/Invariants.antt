use Rattle.std.proofs.Common.{take, map}
use Rattle.header_sets.specs.Spaces.{hulls}
use Rattle.net_types.specs.declared.rule.Rule.{Rule}
use Rattle.box_step.proofs.Reaching.{Reaches}
use Rattle.box_step.proofs.guide.Guide.places_met.Given as goal

-- the places are there of all rules that headers of the hulls so far may come to
abbrev pub invariant-loop-i : goal.invariant-loop-i
invariant-loop-i l = Reaches (take l.i (hulls l.space)) l.rewrite (map (λ (rule : Rule). rule.pattern) l.self.rules.items) l.places.items
