use Rattle.std.proofs.Common.{◌≡◌, ◌+◌, ◌-◌, ◌*◌, ◌<◌, ◌≤◌, ◌^◌, Some, None, get_or, sym, ap, ◌∙◌, arith}
use Rattle.std.proofs.lemmas.List.{take_all}
use Rattle.std.proofs.lemmas.Bool.{cond-false, and_left}
use Rattle.text_words.specs.Numbers.{digits_value, is_plain, number_upto}
use Rattle.text_words.proofs.Digits.{number-fits, number-large, number-overflows}
use Rattle.text_words.proofs.DecimalWords.{number-said}
use Rattle.text_words.proofs.numerals.number.Goals as goal

pub returns-then-not-is_plain-clause-some : goal.returns-then-not-is_plain-clause-some
returns-then-not-is_plain-clause-some c =
    number-said c.args.most c.args.word.now None (omega arith) (sym (cond-false _ _ _ (and_left (is_plain c.args.word.now) _ (sym c.if-not-is_plain.ensures))))

pub returns-in_err-checked_mul : goal.returns-in_err-checked_mul
returns-in_err-checked_mul c =
    let word = c.args.word.now in
    let i = c.loop-digit.digit-index in
    let narrow : c.args.most < 2 ^ 64 = omega arith in
    let large : 2 ^ 64 ≤ 10 * c.loop-digit.value + (get_or word i 0 - 48) = omega (arith, c.in_err-checked_mul.ensures) in
    let none = c.from_residual.ensures ∙ sym (number-overflows c.args.most word i c.loop-digit.value narrow c.loop-digit-test.true c.loop-digit.invariant large) in
    record { value = none; some = number-said c.args.most word _ narrow none }

pub returns-in_err-value : goal.returns-in_err-value
returns-in_err-value c =
    let word = c.args.word.now in
    let i = c.loop-digit.digit-index in
    let narrow : c.args.most < 2 ^ 64 = omega arith in
    let large : 2 ^ 64 ≤ 10 * c.loop-digit.value + (get_or word i 0 - 48) = omega (arith, c.in_err-value.ensures, c.in_ok-checked_mul.ensures, c.from.ensures) in
    let none = c.from_residual-in_err-value.ensures ∙ sym (number-overflows c.args.most word i c.loop-digit.value narrow c.loop-digit-test.true c.loop-digit.invariant large) in
    record { value = none; some = number-said c.args.most word _ narrow none }

pub returns-then-value-most : goal.returns-then-value-most
returns-then-value-most c =
    let word = c.args.word.now in
    let whole : c.loop-digit.value ≡ digits_value word = c.loop-digit.invariant ∙ ap digits_value (take_all c.loop-digit.digit-index word c.loop-digit-test.false) in
    let none : None ≡ number_upto c.args.most word = sym (number-large c.args.most word (omega arith)) in
    record { value = none; some = number-said c.args.most word None (omega arith) none }

pub returns : goal.returns
returns c =
    let word = c.args.word.now in
    let whole : c.loop-digit.value ≡ digits_value word = c.loop-digit.invariant ∙ ap digits_value (take_all c.loop-digit.digit-index word c.loop-digit-test.false) in
    let found : Some c.loop-digit.value ≡ number_upto c.args.most word =
    ap Some whole ∙ sym (number-fits c.args.most word (sym c.if-not-is_plain.ensures) (omega arith)) in
    record { value = found; some = number-said c.args.most word (Some c.loop-digit.value) (omega arith) found }
