use Rattle.std.proofs.Common.{◌≡◌, ◌∙◌, ap, ◌&&◌, not, ◌∷◌, []}
use Rattle.std.proofs.lemmas.Result.{IfOk-weaker}
use Rattle.network_model.specs.Bits.{Header, matches}
use Rattle.header_sets.specs.Spaces.{SpaceValue, holds, is_left}
use Rattle.header_sets.proofs.Narrowing.{minus_set}
use Rattle.header_sets.proofs.Pieces.{any_width}
use Rattle.header_sets.proofs.space.Space.minus.Goals as goal

pub returns-clause-set : goal.returns-clause-set
unfolding holds
returns-clause-set c =
    IfOk-weaker c.meet_without.result
    (λ (space : SpaceValue). (h : Header) → holds space h ≡ (holds c.args.self.now h && is_left c.all.result (c.args.p.now ∷ []) h))
    (λ (space : SpaceValue). (h : Header) → holds space h ≡ (holds c.args.self.now h && not (matches c.args.p.now h)))
    (λ space is h.
    is h
    ∙ minus_set (holds c.args.self.now h) c.self.inside.bits c.args.p.now c.all.result h c.all.ensures
    (λ held. any_width c.self.inside.bits c.self.inside.pieces.items c.self.invariant.widths h (ap (λ s. holds s h) c.self.view_is ∙ held)))
    c.meet_without.ensures.set
