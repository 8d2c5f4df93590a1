use Rattle.std.proofs.Common.{sym, subst, ◌∙◌}
use Rattle.network_model.specs.Rewrites.{AreWithin}
use Rattle.net_text.proofs.Kept.{keeps-same}
use Rattle.net_text.proofs.spelling.keeps_all.Goals as goal

pub returns-clause-keeps : goal.returns-clause-keeps
returns-clause-keeps c =
    keeps-same c.same.result c.args.rewrite.now c.bits.result c.bits.ensures.width
    (λ same. c.same.ensures.0 same ∙ c.keep.ensures, λ same. c.same.ensures.1 (same ∙ sym c.keep.ensures))

pub returns-clause-within : goal.returns-clause-within
returns-clause-within c = subst (λ n. AreWithin n c.args.rewrite.now) c.bits.ensures.width c.bits.ensures.within
