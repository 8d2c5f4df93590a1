use Rattle.std.proofs.Common.{◌∙◌, ap, ◌^◌, ◌-◌, arith, ◌≡◌}
use Rattle.std.proofs.lemmas.Nat.Bits.{ones_shr}
use Rattle.ternary_bits.proofs.word.ones.Goals as goal

pub returns : goal.returns
returns c =
    let left : 128 - (128 - c.args.bits) ≡ c.args.bits = omega arith in
    ones_shr 128 (128 - c.args.bits) (omega arith) ∙ ap (λ k. 2 ^ k - 1) left
