use Rattle.std.proofs.Common.{◌≡◌, ◌∙◌, List, length, map, sym, ap, subst}
use Rattle.std.specs.List.{All}
use Rattle.std.proofs.lemmas.List.Elements.{All-map}
use Rattle.network_model.specs.Bits.{Pattern}
use Rattle.net_types.specs.declared.rule.Rule.{Rule}
use Rattle.pattern_index.specs.Trees.{IsIndexOf}
use Rattle.box_step.specs.Guides.{IsTried}
use Rattle.box_step.proofs.guide.guide_of.Goals as goal

pub of-requires-clause-widths : goal.of-requires-clause-widths
of-requires-clause-widths c =
    let P : Pattern → Type 0 = λ p. length p ≡ c.bits-bits.result in
    let pattern : Rule → Pattern = λ rule. rule.pattern in
    let fit : All (λ (rule : Rule). P (pattern rule)) c.rules_at.result.now = λ k d inside. (c.rules_at.ensures.fit k d inside).pattern ∙ sym c.bits-bits.ensures.width in
    subst (λ (ps : List Pattern). All P ps)
    (sym (c.deref-2.ensures.value ∙ c.in_ok-patterns.ensures ∙ ap (λ (rs : List Rule). map pattern rs) (c.deref.ensures.value ∙ c.in_ok-rules.ensures.items)))
    (All-map P pattern c.rules_at.result.now fit)

pub returns-clause-guide : goal.returns-clause-guide
returns-clause-guide c =
    let pattern : Rule → Pattern = λ rule. rule.pattern in
    let tried : IsTried c.args.net.now c.args.at c.rules_at.result.now = record {
      first = c.rules_at.ensures.first;
      all = λ rule contained. (c.rules_at.ensures.all rule).0 contained;
      every = λ rule contained same. (c.rules_at.ensures.all rule).1 (contained, same);
      order = c.rules_at.ensures.order;
      fit = c.rules_at.ensures.fit;
    } in
    record {
      tried = subst (λ (rs : List Rule). IsTried c.args.net.now c.args.at rs) (sym c.in_ok-rules.ensures.items) tried;
      width = c.in_ok-index.ensures.width ∙ c.bits-bits.ensures.width;
      patterns = subst (λ (ps : List Pattern). IsIndexOf c.in_ok-index.index ps)
          (c.deref-2.ensures.value ∙ c.in_ok-patterns.ensures ∙ ap (λ (rs : List Rule). map pattern rs) c.deref.ensures.value) c.in_ok-index.ensures.patterns;
    }
