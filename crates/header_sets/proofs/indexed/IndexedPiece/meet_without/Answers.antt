use Rattle.std.proofs.Common.{◌≡◌, ◌∙◌, ◌&&◌, not, List, Option, ap}
use Rattle.std.specs.Option.{IfSome}
use Rattle.std.proofs.lemmas.Result.{IfOk-weaker}
use Rattle.network_model.specs.Bits.{Header, Pattern, matches}
use Rattle.header_sets.specs.Spaces.{PieceValue, any_matches, is_left, piece_has}
use Rattle.header_sets.proofs.Nearby.{cut_down, some_weaker}
use Rattle.header_sets.proofs.indexed.IndexedPiece.meet_without.Goals as goal

pub returns-in_ok-near-in-Some-clause-some : goal.returns-in_ok-near-in-Some-clause-some
returns-in_ok-near-in-Some-clause-some c =
    let pattern : Pattern = c.in-Some.pattern in
    let near : List Pattern = c.deref.result.now in
    let own : PieceValue = c.args.self.now in
    let P : PieceValue → Type 0 = λ piece. (h : Header) → piece_has piece h ≡ (is_left pattern near h && not (any_matches c.args.others.now h)) in
    let Q : PieceValue → Type 0 = λ piece. (h : Header) → piece_has piece h ≡ (piece_has own h && is_left c.args.p.now c.args.others.now h) in
    IfOk-weaker c.narrowed.result (λ (found : Option PieceValue). IfSome found P) (λ (found : Option PieceValue). IfSome found Q)
    (λ found is. some_weaker found P Q (λ piece has h.
    has h ∙ cut_down (matches pattern h) (matches own.pattern h) (matches c.args.p.now h) (any_matches near h) (any_matches own.without h) (any_matches c.args.others.now h)
    (c.in-Some.ensures.both h ∙ ap (λ (q : Pattern). matches q h && matches c.args.p.now h) c.pattern.ensures
    ∙ ap (λ (piece : PieceValue). matches piece.pattern h && matches c.args.p.now h) c.self.view_is)
    (λ here. ap (λ (ps : List Pattern). any_matches ps h) c.deref.ensures.value ∙ c.in_ok-near-in-Some.ensures.matched h here)) is)
    c.narrowed.ensures.some
