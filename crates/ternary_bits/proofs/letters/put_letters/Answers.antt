use Rattle.std.proofs.Common.{◌≡◌, ◌∙◌, sym, ◌-◌, ◌<◌, length, get_or, take, refl, arith}
use Rattle.std.proofs.lemmas.List.{length-set, take_more_set}
use Rattle.network_model.specs.Bits.{Any}
use Rattle.ternary_bits.specs.Places.{place_text}
use Rattle.ternary_bits.proofs.Matching.{length-pattern_of}
use Rattle.ternary_bits.proofs.Reading.{text_more}
use Rattle.ternary_bits.proofs.letters.put_letters.Goals as goal

pub loop-before-init : goal.loop-before-init
loop-before-init c =
    let p = c.pattern.inside in
    record { width = sym (length-pattern_of p.bits p.care p.value c.args.pattern.now c.pattern.view_is); size = refl; written = refl }

pub loop-before-preserved : goal.loop-before-preserved
loop-before-preserved c =
    let p = c.pattern.inside in
    let width : p.bits ≡ length c.args.pattern.now = sym (length-pattern_of p.bits p.care p.value c.args.pattern.now c.pattern.view_is) in
    let place : p.bits - 1 - c.loop-before.before ≡ length c.args.pattern.now - 1 - c.loop-before.before = omega arith in
    let letter : c.letter_of.result ≡ place_text c.args.blank (get_or c.args.pattern.now (length c.args.pattern.now - 1 - (length c.args.pattern.now - 1 - c.loop-before.before)) Any) =
    rw (← place) c.letter_of.ensures
    in
    let high = c.pattern.invariant.1 in
    let size = c.loop-before.invariant.size in
    let room : c.loop-before.before < length c.loop-before.letters = omega arith in
    record {
      width = width;
      size = length-set c.loop-before.letters c.loop-before.before c.letter_of.result ∙ size;
      written =
          take_more_set c.loop-before.letters c.loop-before.before c.letter_of.result room
          ∙ text_more c.args.blank c.args.pattern.now c.loop-before.before (take c.loop-before.before c.loop-before.letters) c.letter_of.result (omega arith) c.loop-before.invariant.written letter;
    }
