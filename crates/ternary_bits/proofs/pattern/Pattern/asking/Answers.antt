use Rattle.std.proofs.lemmas.Nat.{pow_pos}
use Rattle.ternary_bits.specs.Words.{letter_at}
use Rattle.ternary_bits.specs.Inverses.{length-places}
use Rattle.ternary_bits.proofs.Sources.{AsksAt, asked_within, asked_takes}
use Rattle.ternary_bits.proofs.pattern.Pattern.asking.Goals as goal

pub invariant_of-result : goal.invariant_of-result
invariant_of-result c =
    let at : AsksAt c.args.bits c.args.place c.with_bit.result c.with_bit-2.result c.args.bit = record {
      inside = c.requires.place;
      narrow = c.requires.width.1;
      asks = c.with_bit.ensures.here;
      no_more = c.with_bit.ensures.others;
      bit_is = c.with_bit-2.ensures.here;
      no_other = c.with_bit-2.ensures.others;
      care_fits = c.with_bit.ensures.fits c.args.bits c.requires.width.1 c.requires.place (pow_pos c.args.bits);
      value_fits = c.with_bit-2.ensures.fits c.args.bits c.requires.width.1 c.requires.place (pow_pos c.args.bits);
    } in
    (c.requires.width.0, c.requires.width.1, at.care_fits, asked_within _ _ _ _ _ at)

pub returns-clause-width : goal.returns-clause-width
returns-clause-width c = length-places (letter_at c.with_bit.result c.with_bit-2.result) c.args.bits

pub returns-clause-asks : goal.returns-clause-asks
returns-clause-asks c =
    let at : AsksAt c.args.bits c.args.place c.with_bit.result c.with_bit-2.result c.args.bit = record {
      inside = c.requires.place;
      narrow = c.requires.width.1;
      asks = c.with_bit.ensures.here;
      no_more = c.with_bit.ensures.others;
      bit_is = c.with_bit-2.ensures.here;
      no_other = c.with_bit-2.ensures.others;
      care_fits = c.with_bit.ensures.fits c.args.bits c.requires.width.1 c.requires.place (pow_pos c.args.bits);
      value_fits = c.with_bit-2.ensures.fits c.args.bits c.requires.width.1 c.requires.place (pow_pos c.args.bits);
    } in
    asked_takes _ _ _ _ _ at
