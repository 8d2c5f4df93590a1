use Rattle.std.proofs.Common.{◌≡◌, ◌∙◌}
use Rattle.std.proofs.lemmas.List.{take_all}
use Rattle.header_sets.proofs.space.Space.copy.Goals as goal

pub invariant_of-result : goal.invariant_of-result
invariant_of-result c =
    let all : c.loop-own.pieces.items ≡ c.self.inside.pieces.items = c.loop-own.invariant ∙ take_all _ _ c.loop-own-test.false ∙ c.deref-own-items.ensures.value in
    rw all c.self.invariant
