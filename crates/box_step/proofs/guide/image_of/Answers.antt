use Rattle.std.proofs.Common.{◌∙◌, refl, sym, ap}
use Rattle.network_model.specs.Bits.{Pattern, matches}
use Rattle.network_model.specs.Rewrites.{rewritten}
use Rattle.network_model.proofs.RewriteLaws.{length-rewritten}
use Rattle.header_sets.proofs.Narrowing.{all_match}
use Rattle.box_step.proofs.Reaching.{within_has}
use Rattle.box_step.proofs.guide.image_of.Goals as goal

pub returns-then-is_within-clause-has : goal.returns-then-is_within-clause-has
returns-then-is_within-clause-has c h width takes =
    sym (c.in-Some.ensures.sources h width) ∙ within_has c.args.pattern.now c.in-Some.sources (c.if-is_within.ensures.0 refl) h takes

pub returns-clause-has : goal.returns-clause-has
returns-clause-has c h width takes =
    ap (λ (p : Pattern). matches p (rewritten c.args.rewrite.now h)) c.all.ensures
    ∙ all_match c.bits.result (rewritten c.args.rewrite.now h) (length-rewritten c.args.rewrite.now h ∙ sym c.bits.ensures.width)
