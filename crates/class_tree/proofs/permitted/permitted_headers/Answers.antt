-- One more forbidden pattern left out, and the end of them.
use Rattle.std.proofs.Common.{◌≡◌, length, sym, ap, ◌∙◌, subst}
use Rattle.std.specs.Prelude.{not, ◌&&◌, All}
use Rattle.std.proofs.lemmas.List.{take_all}
use Rattle.network_model.specs.Bits.{Pattern, matches}
use Rattle.header_sets.specs.Spaces.{any_matches}
use Rattle.class_tree.specs.Permitted.{sent_by}
use Rattle.class_tree.proofs.PermittedSets.{sent_widths, forbid_widths, without_next, without_all}
use Rattle.class_tree.proofs.permitted.permitted_headers.Goals as goal

pub of_patterns-requires-clause-widths : goal.of_patterns-requires-clause-widths
of_patterns-requires-clause-widths c =
    let net = c.args.net.now in
    let widths : All (λ (q : Pattern). length q ≡ c.bits.result) (sent_by net c.args.terminal) =
    subst (λ w. All (λ (q : Pattern). length q ≡ w) (sent_by net c.args.terminal)) (sym c.bits.ensures.width) (sent_widths net c.bits.ensures.well_formed c.args.terminal) in
    subst (λ l. All (λ (q : Pattern). length q ≡ c.bits.result) l) (sym c.sent.ensures) widths

pub minus-requires : goal.minus-requires
minus-requires c =
    let net = c.args.net.now in
    let all : All (λ (q : Pattern). length q ≡ net.width) c.forbidden-pattern-items.result.now =
    subst (λ l. All (λ (q : Pattern). length q ≡ net.width) l) (sym c.forbidden-pattern-items.ensures) (forbid_widths net c.bits.ensures.well_formed c.args.terminal) in
    ap length c.pattern-item.is ∙ all c.loop-pattern.pattern-index c.pattern-item.result c.loop-pattern-test.true ∙ sym c.loop-pattern.invariant.width

pub loop-pattern-preserved : goal.loop-pattern-preserved
loop-pattern-preserved c = record {
  width = c.in_ok-space-2.ensures.width ∙ c.loop-pattern.invariant.width;
  set = λ h. c.in_ok-space-2.ensures.set h ∙ (ap (λ b. b && not (matches c.pattern-item.result h)) (c.loop-pattern.invariant.set h)
      ∙ without_next (sent_by c.args.net.now c.args.terminal) c.forbidden-pattern-items.result.now c.loop-pattern.pattern-index c.pattern-item.result h
      c.loop-pattern-test.true c.pattern-item.is);
}

pub returns-clause-set : goal.returns-clause-set
returns-clause-set c h =
    let net = c.args.net.now in
    c.loop-pattern.invariant.set h
    ∙ (ap (λ l. any_matches (sent_by net c.args.terminal) h && not (any_matches l h))
    (take_all c.loop-pattern.pattern-index c.forbidden-pattern-items.result.now c.loop-pattern-test.false ∙ c.forbidden-pattern-items.ensures)
    ∙ without_all net c.args.terminal h)
