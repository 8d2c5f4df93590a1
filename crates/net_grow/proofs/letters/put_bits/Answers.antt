use Rattle.std.proofs.Common.{length, arith}
use Rattle.net_grow.proofs.TextOfBits.{bits_written}
use Rattle.net_grow.proofs.letters.put_bits.Goals as goal

pub returns : goal.returns
returns c =
    bits_written (length c.args.letters.now) c.args.word c.loop-place.letters c.loop-place.auto.letters
    (λ k l. c.loop-place.invariant.written k (omega arith))
