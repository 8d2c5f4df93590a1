use Rattle.std.proofs.Common.{codes, sym, ◌∙◌}
use Rattle.network_model.specs.Plan.{reserved}
use Rattle.plan_text.specs.PlanText.{numbered_line}
use Rattle.plan_text.proofs.Lines.{pieces_more}
use Rattle.plan_text.proofs.numbers.put_reserved_lines.Goals as goal

pub loop-i-preserved : goal.loop-i-preserved
loop-i-preserved c =
    rw c.in_ok-put_line.ensures.ok
    (pieces_more (numbered_line (codes "reserved")) (reserved c.args.plan.now.plan) c.loop-i.i c.unwrap-number.result c.loop-i.text.items _
    (sym c.reserved.ensures ∙ c.unwrap-number.ensures) c.loop-i.invariant)
