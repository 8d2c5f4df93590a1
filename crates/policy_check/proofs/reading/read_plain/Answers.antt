use Rattle.std.proofs.Common.{◌≡◌, sym, ap, ◌∙◌, Ok, Err}
use Rattle.std.proofs.lemmas.Result.{err_from_is_err_and}
use Rattle.text_words.specs.Words.{words_of}
use Rattle.policy_check.specs.PolicyLines.{numeral, plain}
use Rattle.policy_check.proofs.LineShapes.{three_words}
use Rattle.policy_check.proofs.Said.{plain_to}
use Rattle.policy_check.proofs.reading.read_plain.Goals as goal

pub returns-in_err-numeral-2 : goal.returns-in_err-numeral-2
returns-in_err-numeral-2 c =
    let w = c.in-Some-Some-Some-None in
    let shape = three_words (words_of c.args.line.now) w.from.now w.to.now w.pattern.now w.ensures w.ensures' w.ensures'' w.ensures''' in
    let f = c.in_err-numeral-2.field-0.0 in
    let start : Ok c.in_ok-numeral.field-0 ≡ numeral w.from.now = c.in_ok-numeral.ensures in
    let bad : Err f ≡ numeral w.to.now = c.in_err-numeral-2.ensures in
    let p = err_from_is_err_and c.from_residual-in_err-numeral-2.result c.from_residual-in_err-numeral-2.ensures.1 in
    rw (p.1, p.2) (sym (ap (plain c.args.demand) shape ∙ plain_to c.args.demand w.from.now w.to.now w.pattern.now c.in_ok-numeral.field-0 f start bad))
