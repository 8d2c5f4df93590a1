use Rattle.std.proofs.Common.{◌≡◌, length}
use Rattle.std.specs.List.{All}
use Rattle.box_step.specs.Branches.{is_wanted}
use Rattle.box_step.proofs.PassingBy.{UpTo}
use Rattle.box_step.proofs.Recalling.{IsEarlier}
use Rattle.box_step.proofs.guided.split_many.Given as goal

-- the rules of the places so far, and of all between them, are done
abbrev pub invariant-loop-place : goal.invariant-loop-place
invariant-loop-place l = record {
  progress : UpTo l.net l.port l.space l.rewrite (is_wanted l.drops) l.guide.rules.items l.places l.taken.patterns.items l.branches.items l.place-index;
  widths : All (λ sources. length sources ≡ length l.rewrite) l.taken.patterns.items;
  earlier : IsEarlier l.net l.port l.rewrite l.space l.guide.rules.items l.places l.taken l.place-index;
}
