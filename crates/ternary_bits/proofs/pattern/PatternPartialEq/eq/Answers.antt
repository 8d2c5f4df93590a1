use Rattle.std.proofs.Common.{arith}
use Rattle.ternary_bits.specs.Inverses.{length-places, care_back, asked_back}
use Rattle.ternary_bits.proofs.pattern.PatternPartialEq.eq.Goals as goal

pub returns : goal.returns
returns c = grind (arith, length-places, care_back, asked_back)
