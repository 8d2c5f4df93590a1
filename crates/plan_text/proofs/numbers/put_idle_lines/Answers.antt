use Rattle.std.proofs.Common.{codes, Some, sym, ap, ◌∙◌}
use Rattle.network_model.specs.Plan.{idle}
use Rattle.plan_text.specs.PlanText.{numbered_line}
use Rattle.plan_text.proofs.Lines.{pieces_more}
use Rattle.plan_text.proofs.numbers.put_idle_lines.Goals as goal

pub loop-i-preserved : goal.loop-i-preserved
loop-i-preserved c =
    rw c.in_ok-put_line.ensures.ok
    (pieces_more (numbered_line (codes "idle")) (idle c.args.plan.now.net c.args.plan.now.plan) c.loop-i.i c.get-number.result c.loop-i.text.items _
    (sym c.idle.ensures ∙ c.unwrap.ensures ∙ ap Some (sym c.get-number.ensures)) c.loop-i.invariant)
