use Rattle.std.proofs.Common.{◌∙◌, sym, not, ap, length}
use Rattle.std.proofs.lemmas.Bool.{and_parts}
use Rattle.network_model.specs.Bits.{matches}
use Rattle.network_model.proofs.SomeClass.{matching_length}
use Rattle.header_sets.specs.Spaces.{PieceValue, any_matches}
use Rattle.header_sets.proofs.piece.Piece.narrowed.Goals as goal

pub least_left-requires-clause-width : goal.least_left-requires-clause-width
least_left-requires-clause-width c =
    let p = c.self.inside in
    matching_length p.pattern p.least (and_parts (matches p.pattern p.least) (not (any_matches p.without.items p.least)) c.self.invariant.member).0
    ∙ sym (c.requires.width ∙ ap (λ (v : PieceValue). length v.pattern) (sym c.self.view_is))
