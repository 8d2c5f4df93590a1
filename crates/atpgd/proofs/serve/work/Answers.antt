use Rattle.std.proofs.Common.{◌≡◌, ◌∙◌, rules, refl, ap}
use Rattle.desk_turns.specs.Shared.{DeskId}
use Rattle.atpgd.proofs.Works.{worked_none, worked_both}
use Rattle.atpgd.proofs.serve.work.Goals as goal

pub loop-init : goal.loop-init
loop-init g c = (search rules, search rules, worked_none _ _ _, c.requires.desk)

pub loop-preserved : goal.loop-preserved
loop-preserved g c =
    (search rules, search rules, worked_both _ _ _ _ _ _ _ _ c.loop.invariant.2 c.in-None-serve_next.ensures.worked, ap (λ (d : DeskId). d.table) c.in-None-serve_next.ensures.same_desk ∙ c.loop.invariant.3)

pub returns-in-Some-serve_next-clause-worked : goal.returns-in-Some-serve_next-clause-worked
returns-in-Some-serve_next-clause-worked g c = worked_both _ _ _ _ _ _ _ _ c.loop.invariant.2 c.in-Some-serve_next.ensures.worked
