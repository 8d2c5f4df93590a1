use Rattle.std.proofs.Common.{◌∙◌, ◌-◌, ap}
use Rattle.std.specs.Prelude.{bit_and, bit_xor}
use Rattle.std.specs.Int.Bits.{and_self}
use Rattle.std.proofs.lemmas.Nat.{and_assoc}
use Rattle.box_step.proofs.guide.near_image.Goals as goal

pub of_words-requires-clause-value : goal.of_words-requires-clause-value
of_words-requires-clause-value c =
    let least = c.number-least.result in
    let care = bit_and c.number.result (340282366920938463463374607431768211455 - bit_xor least c.number-greatest.result) in
    and_assoc care least care ∙ ap (λ n. bit_and least n) (and_self care)
