use Rattle.std.proofs.Common.{sym, ◌∙◌, subst}
use Rattle.std.proofs.lemmas.Bool.{eqb-false}
use Rattle.suspect_book.specs.Fewness.{IsFew}
use Rattle.suspect_book.proofs.Fewer.{now_more}
use Rattle.suspect_book.proofs.few.Few.with.Goals as goal

pub returns-else-eq : goal.returns-else-eq
returns-else-eq c rules is =
    now_more rules c.in-One.first c.args.rule (eqb-false c.in-One.first c.args.rule (sym c.eq.ensures ∙ c.if-eq.false)) (subst (IsFew rules) c.in-One.is is)
