use Rattle.std.proofs.Common.{◌≡◌, sym, ap, ◌∙◌, Ok, Err}
use Rattle.std.proofs.lemmas.Result.{err_from_is_err_and}
use Rattle.text_words.specs.Words.{words_of}
use Rattle.policy_check.specs.PolicyLines.{numeral, letters, by_way}
use Rattle.policy_check.proofs.LineShapes.{four_words}
use Rattle.policy_check.proofs.Said.{way_to, way_box, way_letters, way_good}
use Rattle.policy_check.proofs.reading.read_way.Goals as goal

pub returns-in_err-numeral-2 : goal.returns-in_err-numeral-2
returns-in_err-numeral-2 c =
    let w = c.in-Some-Some-Some-Some-None in
    let shape = four_words (words_of c.args.line.now) w.from.now w.to.now w.at.now w.pattern.now w.ensures w.ensures' w.ensures'' w.ensures''' w.ensures'''' in
    let f = c.in_err-numeral-2.field-0.0 in
    let start : Ok c.in_ok-numeral.field-0 ≡ numeral w.from.now = c.in_ok-numeral.ensures in
    let bad : Err f ≡ numeral w.to.now = c.in_err-numeral-2.ensures in
    let p = err_from_is_err_and c.from_residual-in_err-numeral-2.result c.from_residual-in_err-numeral-2.ensures.1 in
    rw (p.1, p.2) (sym (ap by_way shape ∙ way_to w.from.now w.to.now w.at.now w.pattern.now c.in_ok-numeral.field-0 f start bad))

pub returns-in_err-numeral-3 : goal.returns-in_err-numeral-3
returns-in_err-numeral-3 c =
    let w = c.in-Some-Some-Some-Some-None in
    let shape = four_words (words_of c.args.line.now) w.from.now w.to.now w.at.now w.pattern.now w.ensures w.ensures' w.ensures'' w.ensures''' w.ensures'''' in
    let f = c.in_err-numeral-3.field-0.0 in
    let start : Ok c.in_ok-numeral.field-0 ≡ numeral w.from.now = c.in_ok-numeral.ensures in
    let end : Ok c.in_ok-numeral-2.field-0 ≡ numeral w.to.now = c.in_ok-numeral-2.ensures in
    let bad : Err f ≡ numeral w.at.now = c.in_err-numeral-3.ensures in
    let p = err_from_is_err_and c.from_residual-in_err-numeral-3.result c.from_residual-in_err-numeral-3.ensures.1 in
    rw (p.1, p.2) (sym (ap by_way shape ∙ way_box w.from.now w.to.now w.at.now w.pattern.now c.in_ok-numeral.field-0 c.in_ok-numeral-2.field-0 f start end bad))

pub returns-in_err-letters : goal.returns-in_err-letters
returns-in_err-letters c =
    let w = c.in-Some-Some-Some-Some-None in
    let shape = four_words (words_of c.args.line.now) w.from.now w.to.now w.at.now w.pattern.now w.ensures w.ensures' w.ensures'' w.ensures''' w.ensures'''' in
    let f = c.in_err-letters.field-0.0 in
    let start : Ok c.in_ok-numeral.field-0 ≡ numeral w.from.now = c.in_ok-numeral.ensures in
    let end : Ok c.in_ok-numeral-2.field-0 ≡ numeral w.to.now = c.in_ok-numeral-2.ensures in
    let box : Ok c.in_ok-numeral-3.field-0 ≡ numeral w.at.now = c.in_ok-numeral-3.ensures in
    let bad : Err f ≡ letters w.pattern.now = c.in_err-letters.ensures in
    let p = err_from_is_err_and c.from_residual-in_err-letters.result c.from_residual-in_err-letters.ensures.1 in
    rw (p.1, p.2) (sym (ap by_way shape ∙ way_letters w.from.now w.to.now w.at.now w.pattern.now c.in_ok-numeral.field-0 c.in_ok-numeral-2.field-0 c.in_ok-numeral-3.field-0 f start end box bad))

pub returns : goal.returns
returns c =
    let w = c.in-Some-Some-Some-Some-None in
    let shape = four_words (words_of c.args.line.now) w.from.now w.to.now w.at.now w.pattern.now w.ensures w.ensures' w.ensures'' w.ensures''' w.ensures'''' in
    let start : Ok c.in_ok-numeral.field-0 ≡ numeral w.from.now = c.in_ok-numeral.ensures in
    let end : Ok c.in_ok-numeral-2.field-0 ≡ numeral w.to.now = c.in_ok-numeral-2.ensures in
    let box : Ok c.in_ok-numeral-3.field-0 ≡ numeral w.at.now = c.in_ok-numeral-3.ensures in
    let pattern : Ok c.in_ok-letters.field-0 ≡ letters w.pattern.now = c.in_ok-letters.ensures in
    rw (c.of.ensures, c.of-2.ensures, c.of-3.ensures)
    (sym (ap by_way shape ∙ way_good w.from.now w.to.now w.at.now w.pattern.now c.in_ok-numeral.field-0 c.in_ok-numeral-2.field-0 c.in_ok-numeral-3.field-0 c.in_ok-letters.field-0 start end box pattern))
