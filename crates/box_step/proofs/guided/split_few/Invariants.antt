use Rattle.std.proofs.Common.{◌≡◌, length}
use Rattle.std.specs.List.{All}
use Rattle.box_step.specs.Branches.{is_wanted}
use Rattle.box_step.proofs.PassingBy.{UpTo}
use Rattle.box_step.proofs.guided.split_few.Given as goal

-- the rules of the places so far, and of all between them, are done
abbrev pub invariant-loop-place : goal.invariant-loop-place
invariant-loop-place l = record {
  progress : UpTo l.net l.port l.space l.rewrite (is_wanted l.drops) l.guide.rules.items l.places l.earlier.items l.branches.items l.place-index;
  widths : All (λ sources. length sources ≡ length l.rewrite) l.earlier.items;
}
