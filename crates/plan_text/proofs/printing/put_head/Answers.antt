use Rattle.std.proofs.Common.{◌≡◌, ◌∷◌, ◌++◌, [], codes, ap, ◌∙◌}
use Rattle.std.proofs.lemmas.Result.{on_ok_weaker}
use Rattle.text_lines.specs.Lines.{number_line}
use Rattle.plan_text.proofs.printing.put_head.Goals as goal

pub returns : goal.returns
returns c =
    let plan = c.args.plan.now in
    let numbers : c.bits-bits.result ∷ c.hops.result ∷ [] ≡ plan.net.width ∷ plan.hops ∷ [] =
    cc (c.bits-bits.ensures.width, c.deref.ensures, c.net.ensures.net, c.hops.ensures.hops)
    in
    on_ok_weaker c.put_line.result (λ put. put ∙ ap (λ ns. c.args.text.now.items ++ number_line (codes "atpg-plan 1") ns) numbers) c.put_line.ensures.ok
