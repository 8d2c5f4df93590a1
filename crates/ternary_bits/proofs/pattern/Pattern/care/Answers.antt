use Rattle.std.proofs.Common.{◌∙◌, ap, sym, map}
use Rattle.network_model.specs.Bits.{number_of}
use Rattle.ternary_bits.specs.Words.{has_bit}
use Rattle.ternary_bits.specs.Inverses.{care_back}
use Rattle.ternary_bits.proofs.Matching.{length-pattern_of}
use Rattle.ternary_bits.proofs.pattern.Pattern.care.Goals as goal

pub returns-clause-value : goal.returns-clause-value
returns-clause-value c =
    let p = c.self.inside in
    sym (care_back p.bits p.care p.value c.self.invariant.2) ∙ ap (λ letters. number_of (map has_bit letters)) c.self.view_is

pub returns-clause-fits : goal.returns-clause-fits
returns-clause-fits c =
    let p = c.self.inside in
    rw (length-pattern_of p.bits p.care p.value c.args.self.now c.self.view_is) c.self.invariant.2
