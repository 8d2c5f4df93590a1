use Rattle.std.proofs.Common.{◌≡◌, ◌∷◌, ◌++◌, ◌∙◌, sym, ap, append_assoc}
use Rattle.std.specs.Fmt.{decimal}
use Rattle.text_lines.specs.Lines.{number_list}
use Rattle.plan_text.proofs.Lines.{joined}
use Rattle.session_lines.proofs.replies.put_list.Goals as goal

pub loop-rule-init : goal.loop-rule-init
loop-rule-init c =
    let parts : c.args.rules.now ≡ c.in-Some.first.now ∷ c.in-Some.rest.now = cc (c.as_slice.ensures, c.in-Some.ensures.cases.0, c.in-Some.first-is, c.in-Some.rest-is) in
    rw (c.in_ok-put_number.ensures.ok, c.get.ensures)
    (append_assoc c.args.text.now.items (decimal c.in-Some.first.now) _ ∙ ap (λ t. c.args.text.now.items ++ t) (sym (joined c.in-Some.first.now c.in-Some.rest.now) ∙ ap number_list (sym parts)))
