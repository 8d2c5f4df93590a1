use Rattle.std.proofs.Common.{◌∙◌, ap}
use Rattle.std.specs.Prelude.{bit_and}
use Rattle.std.specs.Int.Bits.{and_self}
use Rattle.std.proofs.lemmas.Nat.{and_assoc}
use Rattle.pattern_index.proofs.hull.near_hull.Goals as goal

pub of_words-requires-clause-value : goal.of_words-requires-clause-value
of_words-requires-clause-value c =
    let care = bit_and c.care-2.result c.loop-entry.common in
    and_assoc care c.value-value.result care ∙ ap (λ n. bit_and c.value-value.result n) (and_self care)
