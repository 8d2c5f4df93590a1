use Rattle.std.proofs.Common.{subst}
use Rattle.suspect_book.specs.Fewness.{IsFew}
use Rattle.suspect_book.proofs.Fewer.{only_tests}
use Rattle.suspect_book.proofs.few.Few.only.Goals as goal

pub returns-in-One : goal.returns-in-One
returns-in-One c rules few rule = only_tests rules c.in-One.rule rule (subst (IsFew rules) c.in-One.is few)
