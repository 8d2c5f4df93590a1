use Rattle.std.proofs.Common.{◌≡◌, ◌+◌, ◌*◌, ◌%◌, ◌^◌, ◌<◌, sym, subst, ◌∙◌, arith}
use Rattle.network_model.specs.Network.{Numbered, OnePort}
use Rattle.net_types.specs.Rules.{action}
use Rattle.net_grow.specs.Adding.{Fits}
use Rattle.net_grow.specs.Rules.{inward}
use Rattle.net_grow.specs.Words.{nth_word}
use Rattle.net_grow.proofs.Made.{rule_of, inward_made, inward_fits}
use Rattle.net_grow.proofs.Sequence.{drawn, stands}
use Rattle.net_grow.proofs.rules.inward.Goals as goal

pub returns-clause-rule : goal.returns-clause-rule
returns-clause-rule c =
    let g = c.args.words.now in
    let a = c.draw.ensures.word in
    let b = drawn g c.draw.new.words 1 c.draw-2.result c.draw.ensures.rest c.draw-2.ensures.word in
    let low : c.draw-2.result < 2 ^ 32 = omega arith in
    let both : c.from.result * 2 ^ 32 % 2 ^ 64 + c.from-word.result ≡ c.args.edge * 2 ^ 32 % 2 ^ 64 + c.draw-2.result =
    λ i. c.from.ensures i * 2 ^ 32 % 2 ^ 64 + c.from-word.ensures i
    in
    (λ i. rule_of (c.of.ensures i) (c.of-2.ensures i) (4 + c.draw.result % 20) (OnePort (c.of-3.ensures i)) c.beginning.result (action c.through.result))
    ∙ inward_made c.args.edge c.args.index c.draw.result c.draw-2.result
    (c.from.result * 2 ^ 32 % 2 ^ 64 + c.from-word.result) c.beginning.result (action c.through.result)
    c.requires.0 low both c.beginning.ensures c.through.ensures
    ∙ (λ i. inward c.args.edge c.args.index (a i) (b i))

pub returns-clause-fits : goal.returns-clause-fits
returns-clause-fits c =
    let g = c.args.words.now in
    let AllFit : Numbered → Type 0 = λ (r : Numbered). Fits r.1 in
    subst AllFit (sym (returns-clause-rule c)) (inward_fits c.args.edge c.args.index (nth_word g 0) (nth_word g 1) c.requires.0)

pub returns-clause-words : goal.returns-clause-words
returns-clause-words c = stands c.args.words.now c.draw.new.words c.draw-2.new.words 1 c.draw.ensures.rest c.draw-2.ensures.rest
