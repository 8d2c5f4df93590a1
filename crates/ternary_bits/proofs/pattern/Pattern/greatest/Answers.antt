use Rattle.std.proofs.Common.{◌≡◌, ◌∙◌, ap, sym, ◌<◌, ◌^◌, arith}
use Rattle.std.proofs.lemmas.Nat.{and_le_r}
use Rattle.ternary_bits.specs.Pieces.{greatest_member}
use Rattle.ternary_bits.proofs.Headers.{header_from}
use Rattle.ternary_bits.proofs.Members.{greatest_matches, greatest_last, greatest_word, greatest_word-lt, greatest_member-pattern_of}
use Rattle.ternary_bits.proofs.pattern.Pattern.greatest.Goals as goal

pub of_number-requires-clause-fits : goal.of_number-requires-clause-fits
of_number-requires-clause-fits c =
    let p = c.self.inside in
    let fits : p.value < 2 ^ p.bits = omega (arith, c.self.invariant.2, c.self.invariant.3, and_le_r p.value p.care) in
    greatest_word-lt p.bits c.ones.result p.care p.value c.ones.ensures fits

pub returns : goal.returns
returns c =
    let p = c.self.inside in
    let value : c.of_number.result ≡ greatest_member c.args.self.now =
    sym (header_from c.of_number.result p.bits (greatest_word c.ones.result p.care p.value) c.of_number.ensures.width c.of_number.ensures.number)
    ∙ sym (greatest_member-pattern_of p.bits c.ones.result p.care p.value c.ones.ensures c.self.invariant.1 (omega arith))
    ∙ ap greatest_member c.self.view_is
    in
    record {
      value = value;
      member = rw value (greatest_matches c.args.self.now);
      greatest = rw value (greatest_last c.args.self.now);
    }
