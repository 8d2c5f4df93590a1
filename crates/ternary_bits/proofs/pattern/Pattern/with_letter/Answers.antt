use Rattle.std.proofs.Common.{◌∙◌, ap, ◌-◌, ◌<◌, ◌^◌, set, arith}
use Rattle.std.proofs.lemmas.Nat.{and_le_r}
use Rattle.network_model.specs.Bits.{Bit, Pattern}
use Rattle.ternary_bits.proofs.Matching.{length-pattern_of}
use Rattle.ternary_bits.proofs.Asking.{SetsAt, set_within, set_words}
use Rattle.ternary_bits.proofs.pattern.Pattern.with_letter.Goals as goal

pub overflow_sub-place-2 : goal.overflow_sub-place-2
overflow_sub-place-2 c =
    let p = c.self.inside in
    let width = length-pattern_of p.bits p.care p.value c.args.self.now c.self.view_is in
    omega arith

pub invariant_of-result : goal.invariant_of-result
invariant_of-result c =
    let p = c.self.inside in
    let width = length-pattern_of p.bits p.care p.value c.args.self.now c.self.view_is in
    let inside : p.bits - 1 - c.args.place < p.bits = omega arith in
    let value_fits : p.value < 2 ^ p.bits = omega (arith, and_le_r p.value p.care) in
    let sets : SetsAt p.bits (p.bits - 1 - c.args.place) p.care p.value c.with_bit.result c.with_bit-2.result c.args.bit = record {
      inside = inside;
      narrow = c.self.invariant.1;
      asks = c.with_bit.ensures.here;
      no_more = c.with_bit.ensures.others;
      bit_is = c.with_bit-2.ensures.here;
      no_other = c.with_bit-2.ensures.others;
      value_fits = c.with_bit-2.ensures.fits p.bits c.self.invariant.1 inside value_fits;
      within = c.self.invariant.3;
    } in
    (c.self.invariant.0, c.self.invariant.1, c.with_bit.ensures.fits p.bits c.self.invariant.1 inside c.self.invariant.2, set_within _ _ _ _ _ _ _ sets)

pub returns : goal.returns
returns c =
    let p = c.self.inside in
    let width = length-pattern_of p.bits p.care p.value c.args.self.now c.self.view_is in
    let inside : p.bits - 1 - c.args.place < p.bits = omega arith in
    let value_fits : p.value < 2 ^ p.bits = omega (arith, and_le_r p.value p.care) in
    let sets : SetsAt p.bits (p.bits - 1 - c.args.place) p.care p.value c.with_bit.result c.with_bit-2.result c.args.bit = record {
      inside = inside;
      narrow = c.self.invariant.1;
      asks = c.with_bit.ensures.here;
      no_more = c.with_bit.ensures.others;
      bit_is = c.with_bit-2.ensures.here;
      no_other = c.with_bit-2.ensures.others;
      value_fits = c.with_bit-2.ensures.fits p.bits c.self.invariant.1 inside value_fits;
      within = c.self.invariant.3;
    } in
    set_words p.bits (p.bits - 1 - c.args.place) c.args.place p.care p.value c.with_bit.result c.with_bit-2.result c.args.bit sets (omega arith)
    ∙ ap (λ (q : Pattern). set q c.args.place (Bit c.args.bit)) c.self.view_is
