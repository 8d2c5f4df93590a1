use Rattle.std.proofs.Common.{◌≡◌, ◌∙◌, true, arith, ap, Some, Err, is_none}
use Rattle.std.specs.List.{position}
use Rattle.ternary_bits.specs.declared.fault.LetterFault.TheVariants.{BadLetter}
use Rattle.ternary_bits.specs.Places.{place_letter}
use Rattle.std.proofs.lemmas.Bool.Decides.{nat_tests}
use Rattle.ternary_bits.specs.Letters.{has_width}
use Rattle.ternary_bits.proofs.Reading.{has_read_none, has_read_more, first_wrong, none_wrong, wrong_at}
use Rattle.ternary_bits.proofs.letters.read_letters.Goals as goal

pub loop-at-init : goal.loop-at-init
loop-at-init c = has_read_none c.args.blank c.args.text.now

pub loop-at-preserved : goal.loop-at-preserved
loop-at-preserved c =
    let at = c.loop-at.at in
    has_read_more c.args.blank c.args.text.now at c.loop-at.care c.loop-at.value c.in-Some.has_bit c.in-Some.bit (omega arith) (omega arith)
    c.in-Some.ensures.some.0 c.in-Some.ensures.some.1 c.in-Some.ensures.some.2 c.loop-at.invariant

pub returns-in_default-clause-letter : goal.returns-in_default-clause-letter
returns-in_default-clause-letter c =
    let text = c.args.text.now in
    let at = c.loop-at.at in
    let wide : has_width text ≡ true = grind (arith, nat_tests) in
    let first : position (λ b. is_none (place_letter c.args.blank b)) text ≡ Some at =
    first_wrong c.args.blank text at c.loop-at.care c.loop-at.value (omega arith) (c.in_default.ensures.none) c.loop-at.invariant
    in
    λ place. (λ e. (wide, first ∙ ap Some cc), λ h. let same : at ≡ place = cc (first, h.1) in ap (λ k. Err (BadLetter k)) same)

pub returns-clause-letter : goal.returns-clause-letter
returns-clause-letter c =
    λ place. (λ e. cc, λ h. absurd (none_wrong c.args.blank c.args.text.now c.loop-at.at c.loop-at.care c.loop-at.value place (omega arith) c.loop-at.invariant h.1))

pub returns-in_default-clause-err : goal.returns-in_default-clause-err
returns-in_default-clause-err c =
    λ wide. wrong_at c.args.blank c.args.text.now c.loop-at.at (omega arith) c.in_default.ensures.none
