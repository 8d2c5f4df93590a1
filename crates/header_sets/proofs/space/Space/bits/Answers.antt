use Rattle.std.proofs.Common.{ap, ◌∙◌}
use Rattle.header_sets.specs.Spaces.{holds}
use Rattle.header_sets.proofs.Pieces.{any_width}
use Rattle.header_sets.proofs.space.Space.bits.Goals as goal

pub returns-clause-headers : goal.returns-clause-headers
unfolding holds
returns-clause-headers c h held =
    any_width c.self.inside.bits c.self.inside.pieces.items c.self.invariant.widths h (ap (λ s. holds s h) c.self.view_is ∙ held)
