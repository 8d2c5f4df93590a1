use Rattle.std.proofs.Common.{◌≡◌, ◌∙◌, ap, ◌*◌, ◌^◌, ◌-◌, ◌%◌, arith}
use Rattle.std.proofs.lemmas.Nat.{leading_top, one_shl}
use Rattle.std.proofs.Math.Nat.{pow-suc}
use lib.Count.{count_leading_zeros}
use Rattle.ternary_bits.proofs.word.highest_bit.Goals as goal

pub returns : goal.returns
returns c =
    let word = c.args.word in
    let top = leading_top 128 word c.requires c.ranges.word.fits in
    let j = top.0 in
    let at : 127 - count_leading_zeros 128 word ≡ j = omega (arith, top.1) in
    let power : 1 * 2 ^ (127 - count_leading_zeros 128 word) % 2 ^ 128 ≡ 2 ^ j =
    one_shl (127 - count_leading_zeros 128 word) 128 (omega arith) ∙ ap (λ k. 2 ^ k) at
    in
    (j, power, omega (arith, power, top.2), omega (arith, power, top.3, pow-suc 2 j))
