use Rattle.std.proofs.Common.{◌≡◌, ◌∙◌, ℕ, List, get_or, length, sym, ap, subst}
use Rattle.std.specs.List.{Contains}
use Rattle.std.proofs.lemmas.List.Elements.{All-contains}
use Rattle.network_model.specs.Bits.{Pattern}
use Rattle.pattern_index.specs.Trees.{IsIndexOf}
use Rattle.header_sets.specs.Spaces.{PieceValue, any_matches}
use Rattle.header_sets.proofs.Nearby.{near_match}
use Rattle.header_sets.proofs.indexed.IndexedPiece.near.Goals as goal

pub returns-clause-widths : goal.returns-clause-widths
returns-clause-widths c k d inside =
    let near : List Pattern = c.in_ok-near.near.items in
    let without : List Pattern = c.without.result.now in
    All-contains (λ (p : Pattern). length p ≡ length c.self.inside.piece.now.pattern) without (get_or near k d) c.without.ensures.widths (c.in_ok-near.ensures.listed k d inside)
    ∙ ap (λ (piece : PieceValue). length piece.pattern) c.self.view_is ∙ sym c.requires

pub returns-clause-matched : goal.returns-clause-matched
returns-clause-matched c h here =
    let near : List Pattern = c.in_ok-near.near.items in
    let without : List Pattern = c.without.result.now in
    near_match c.args.pattern.now without near c.new-places.result.items c.add_meeting.new.places.items
    (c.in_ok-add_meeting.ensures without (subst (λ (ps : List Pattern). IsIndexOf c.self.inside.index ps) (sym c.without.ensures.patterns) c.self.invariant.patterns))
    c.in_ok-near.ensures.listed
    (λ place p there at. c.in_ok-near.ensures.every place p (subst (λ (ps : List ℕ). Contains ps place) (sym c.deref.ensures.value) there) at)
    h here
    ∙ ap (λ (ps : List Pattern). any_matches ps h) c.without.ensures.patterns
    ∙ ap (λ (piece : PieceValue). any_matches piece.without h) c.self.view_is
