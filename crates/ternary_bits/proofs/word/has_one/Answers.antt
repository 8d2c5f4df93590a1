use Rattle.std.proofs.Common.{ap, eqb}
use Rattle.std.proofs.lemmas.Nat.Bits.{shr_and_one}
use Rattle.ternary_bits.proofs.word.has_one.Goals as goal

pub returns : goal.returns
returns c = ap (λ b. eqb b 1) (shr_and_one c.args.word c.args.place)
