use Rattle.std.specs.Prelude.{◌-◌, Some, slice_set}
use Rattle.std.proofs.Common.{ap, ◌∙◌}
use Rattle.suspect_book.specs.BookValue.{BookValue}
use Rattle.desk_core.specs.RoundsValue.{PostedValue}
use Rattle.suspect_book.specs.Verdicts.{verdict_at}
use Rattle.desk_core.proofs.CountOk.{count_ok}
use Rattle.desk_core.proofs.posted.Posted.count.Goals as goal

pub returns : goal.returns
returns c =
    let F : BookValue → PostedValue = λ b. record { plan = b.plan; verdicts = b.verdicts; senders = c.self.inside.senders.items } in
    let G : PostedValue → PostedValue = λ p. record { plan = p.plan; verdicts = slice_set p.verdicts (c.args.entry - 1) (Some c.args.verdict); senders = p.senders } in
    let none = ap (λ (p : PostedValue). verdict_at p.verdicts c.args.entry) c.self.view_is ∙ c.requires.none in
    ap F (count_ok c.count.result c.self.inside.book.verdicts c.args.entry c.count.ensures.ok c.count.ensures.counted none) ∙ ap G c.self.view_is
