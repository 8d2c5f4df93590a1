use Rattle.std.specs.List.{All}
use Rattle.box_step.specs.Guides.{IsGuide}
use Rattle.box_step.proofs.overlaps.guides_of.Given as goal

abbrev pub invariant-loop-place : goal.invariant-loop-place
invariant-loop-place l = All (IsGuide l.net) l.guides.items
