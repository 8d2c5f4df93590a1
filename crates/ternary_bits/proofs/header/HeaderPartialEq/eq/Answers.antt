use Rattle.std.proofs.Common.{arith}
use Rattle.ternary_bits.specs.Inverses.{length-places}
use Rattle.ternary_bits.proofs.Headers.{number_of-fits}
use Rattle.ternary_bits.proofs.header.HeaderPartialEq.eq.Goals as goal

pub returns : goal.returns
returns c = grind (arith, length-places, number_of-fits)
