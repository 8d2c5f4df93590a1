use Rattle.std.proofs.Common.{◌≡◌, ◌∙◌, ap, eqb, ◌*◌, ◌^◌, ◌%◌, ◌<◌, ◌≤◌, suc, arith}
use Rattle.std.specs.Int.{w128}
use Rattle.std.proofs.Math.Nat.{pow-le-pow_right, pow-suc}
use Rattle.std.proofs.lemmas.Nat.{one_shl, or_lt, pow_pos}
use Rattle.std.proofs.lemmas.Nat.Bits.{bit_at_set_same, bit_at_set_other, bit_at_clear_same, bit_at_clear_other}
use Rattle.ternary_bits.proofs.word.with_bit.Goals as goal

pub returns-then-bit-clause-here : goal.returns-then-bit-clause-here
returns-then-bit-clause-here c = ap (λ b. eqb b 1) (bit_at_set_same w128 c.args.word c.args.place c.requires) ∙ cc

pub returns-then-bit-clause-others : goal.returns-then-bit-clause-others
returns-then-bit-clause-others c = λ other l apart. ap (λ b. eqb b 1) (bit_at_set_other w128 c.args.word c.args.place c.requires other apart)

pub returns-then-bit-clause-fits : goal.returns-then-bit-clause-fits
returns-then-bit-clause-fits c = λ bits wide inside fits.
    let one : 1 * 2 ^ c.args.place % 2 ^ 128 ≡ 2 ^ c.args.place = one_shl c.args.place 128 c.requires in
    let next : suc c.args.place ≤ bits = omega arith in
    let above : 2 ^ suc c.args.place ≤ 2 ^ bits = pow-le-pow_right {n = 2} (omega arith) next in
    let below : 2 ^ c.args.place < 2 ^ bits = omega (arith, above, pow-suc 2 c.args.place, pow_pos c.args.place) in
    or_lt bits c.args.word (1 * 2 ^ c.args.place % 2 ^ 128) fits (omega (arith, one))

pub returns-else-bit-clause-here : goal.returns-else-bit-clause-here
returns-else-bit-clause-here c = ap (λ b. eqb b 1) (bit_at_clear_same w128 c.args.word c.args.place c.requires) ∙ cc

pub returns-else-bit-clause-others : goal.returns-else-bit-clause-others
returns-else-bit-clause-others c = λ other l apart. ap (λ b. eqb b 1) (bit_at_clear_other w128 c.args.word c.args.place c.requires other l apart)
