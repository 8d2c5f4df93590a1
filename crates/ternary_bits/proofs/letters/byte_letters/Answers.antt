use Rattle.ternary_bits.proofs.Bytes.{in_halves}
use Rattle.ternary_bits.proofs.letters.byte_letters.Goals as goal

pub returns : goal.returns
returns c = in_halves c.args.byte c.half_letters.result c.half_letters-2.result c.half_letters.ensures c.half_letters-2.ensures
