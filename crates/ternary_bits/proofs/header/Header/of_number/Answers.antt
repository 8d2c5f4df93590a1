use Rattle.ternary_bits.specs.Words.{is_one}
use Rattle.ternary_bits.specs.Inverses.{length-places}
use Rattle.ternary_bits.proofs.Headers.{number_of-fits}
use Rattle.ternary_bits.proofs.header.Header.of_number.Goals as goal

pub returns-clause-width : goal.returns-clause-width
returns-clause-width c = length-places (is_one c.args.number) c.args.bits

pub returns-clause-number : goal.returns-clause-number
returns-clause-number c = number_of-fits c.args.bits c.args.number c.requires.fits
