use Rattle.std.proofs.Common.{Vec, Global, true}
use Rattle.std.proofs.lemmas.Result.{IfOk-weaker}
use Rattle.box_step.specs.declared.branches.Branch.{Branch}
use Rattle.box_step.specs.Branches.{is_wanted, IsSplit, IsSplitOf}
use Rattle.box_step.proofs.Splitting.{all_of_them}
use Rattle.box_step.proofs.guided.split_with.Goals as goal

pub returns : goal.returns
returns c =
    IfOk-weaker c.split_guided.result
    (λ (branches : Vec Branch Global). IsSplitOf (is_wanted true) c.args.net.now c.args.port c.args.space.now c.args.rewrite.now branches.items)
    (λ (branches : Vec Branch Global). IsSplit c.args.net.now c.args.port c.args.space.now c.args.rewrite.now branches.items)
    (λ branches of. all_of_them c.args.net.now c.args.port c.args.space.now c.args.rewrite.now branches.items of)
    c.split_guided.ensures
