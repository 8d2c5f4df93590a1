use Rattle.std.proofs.Common.{◌≡◌, ◌∙◌, ap, sym}
use Rattle.ternary_bits.specs.Pieces.{least_member}
use Rattle.ternary_bits.specs.Inverses.{least_member-pattern_of}
use Rattle.ternary_bits.proofs.Headers.{header_from}
use Rattle.ternary_bits.proofs.Members.{least_matches, least_first}
use Rattle.ternary_bits.proofs.pattern.Pattern.least.Goals as goal

pub returns : goal.returns
returns c =
    let p = c.self.inside in
    let value : c.of_number.result ≡ least_member c.args.self.now =
    sym (header_from c.of_number.result p.bits p.value c.of_number.ensures.width c.of_number.ensures.number)
    ∙ sym (least_member-pattern_of p.bits p.care p.value c.self.invariant.3)
    ∙ ap least_member c.self.view_is
    in
    record {
      value = value;
      member = rw value (least_matches c.args.self.now);
      least = rw value (least_first c.args.self.now);
    }
