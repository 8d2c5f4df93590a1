use Rattle.std.proofs.Common.{◌<◌, ◌^◌, ◌∙◌, ap, sym, arith}
use Rattle.std.proofs.lemmas.Nat.{and_le_r}
use Rattle.network_model.specs.Bits.{number_of}
use Rattle.ternary_bits.specs.Pieces.{least_member}
use Rattle.ternary_bits.specs.Inverses.{asked_back}
use Rattle.ternary_bits.proofs.Matching.{length-pattern_of}
use Rattle.ternary_bits.proofs.pattern.Pattern.value.Goals as goal

pub returns-clause-value : goal.returns-clause-value
returns-clause-value c =
    let p = c.self.inside in
    sym (asked_back p.bits p.care p.value c.self.invariant.2 c.self.invariant.3) ∙ ap (λ letters. number_of (least_member letters)) c.self.view_is

pub returns-clause-fits : goal.returns-clause-fits
returns-clause-fits c =
    let p = c.self.inside in
    let below : p.value < 2 ^ p.bits = omega (arith, and_le_r p.value p.care, c.self.invariant.2, c.self.invariant.3) in
    rw (length-pattern_of p.bits p.care p.value c.args.self.now c.self.view_is) below
