use Rattle.std.proofs.Common.{◌≡◌, length, map, drop}
use Rattle.std.specs.List.{All}
use Rattle.net_types.specs.Rules.{numbered}
use Rattle.box_step.specs.Branches.{is_wanted}
use Rattle.box_step.specs.Taking.{is_left}
use Rattle.box_step.proofs.Splitting.{Progress}
use Rattle.box_step.proofs.branches.split_wanted.Given as goal

abbrev pub invariant-loop-rule : goal.invariant-loop-rule
invariant-loop-rule l = record {
  progress : Progress l.net l.port l.space l.rewrite (is_wanted l.drops) (drop l.rule-index (map numbered l.rule-items)) (is_left l.space l.earlier.items) l.branches.items;
  widths : All (λ sources. length sources ≡ length l.rewrite) l.earlier.items;
}
