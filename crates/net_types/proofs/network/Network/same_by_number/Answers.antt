use Rattle.std.proofs.Common.{◌≡◌, sym, ap, refl, ◌∙◌, arith}
use Rattle.std.specs.List.{slice_get}
use borrow.Author.Count.{below_more}
use Rattle.net_types.proofs.Sames.{list_from_gets}
use Rattle.net_types.proofs.network.Network.same_by_number.Goals as goal

pub returns-then-not-same_at : goal.returns-then-not-same_at
returns-then-not-same_at c = (
  λ no. absurd (cc),
  λ same. sym c.if-not-same_at.true ∙ c.same_at.ensures.1 (c.rule_at.ensures ∙ ap (λ l. slice_get l c.loop-i.i) same ∙ sym c.rule_at-in-loop-i.ensures),
)

pub loop-i-preserved : goal.loop-i-preserved
loop-i-preserved c = below_more (λ k. slice_get c.args.self.now.rules k ≡ slice_get c.args.other.now.rules k) c.loop-i.i c.loop-i.invariant
    (sym c.rule_at.ensures ∙ c.same_at.ensures.0 c.if-not-same_at.false ∙ c.rule_at-in-loop-i.ensures)

pub returns : goal.returns
returns c = (
  λ _. list_from_gets c.args.self.now.rules c.args.other.now.rules (omega arith) (λ k below. c.loop-i.invariant k (omega arith)),
  λ _. refl,
)
