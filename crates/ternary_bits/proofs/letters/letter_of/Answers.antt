use Rattle.std.proofs.Common.{◌∙◌, sym, arith, true, false}
use Rattle.ternary_bits.proofs.Matching.{length-pattern_of}
use Rattle.ternary_bits.proofs.Reading.{place_written, text_blank, text_bit}
use Rattle.ternary_bits.proofs.letters.letter_of.Goals as goal

pub has_one-requires : goal.has_one-requires
has_one-requires c =
    let p = c.pattern.inside in
    omega (arith, c.requires, c.pattern.invariant.1, length-pattern_of p.bits p.care p.value c.args.pattern.now c.pattern.view_is)

pub has_one-requires-else-not-has_one : goal.has_one-requires-else-not-has_one
has_one-requires-else-not-has_one c =
    let p = c.pattern.inside in
    omega (arith, c.requires, c.pattern.invariant.1, length-pattern_of p.bits p.care p.value c.args.pattern.now c.pattern.view_is)

pub returns-then-not-has_one : goal.returns-then-not-has_one
returns-then-not-has_one c =
    let p = c.pattern.inside in
    sym (place_written c.args.blank p.bits p.care p.value c.args.place c.args.pattern.now c.pattern.view_is c.requires
    ∙ text_blank c.args.blank p.care p.value c.args.place (sym c.has_one.ensures ∙ c.if-not-has_one.true))

pub returns-then-has_one : goal.returns-then-has_one
returns-then-has_one c =
    let p = c.pattern.inside in
    sym (place_written c.args.blank p.bits p.care p.value c.args.place c.args.pattern.now c.pattern.view_is c.requires
    ∙ text_bit c.args.blank p.care p.value c.args.place true (sym c.has_one.ensures ∙ c.if-not-has_one.false) (sym c.has_one-else-not-has_one.ensures ∙ c.if-has_one.true))

pub returns-else-has_one : goal.returns-else-has_one
returns-else-has_one c =
    let p = c.pattern.inside in
    sym (place_written c.args.blank p.bits p.care p.value c.args.place c.args.pattern.now c.pattern.view_is c.requires
    ∙ text_bit c.args.blank p.care p.value c.args.place false (sym c.has_one.ensures ∙ c.if-not-has_one.false) (sym c.has_one-else-not-has_one.ensures ∙ c.if-has_one.false))
