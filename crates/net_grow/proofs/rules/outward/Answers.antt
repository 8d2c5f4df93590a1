use Rattle.std.proofs.Common.{◌≡◌, ◌+◌, ◌*◌, ◌%◌, ◌^◌, ◌<◌, sym, subst, ◌∙◌, arith}
use Rattle.network_model.specs.Network.{Numbered, OnePort}
use Rattle.net_types.specs.Rules.{action}
use Rattle.net_grow.specs.Adding.{Fits}
use Rattle.net_grow.specs.Rules.{outward}
use Rattle.net_grow.specs.Words.{nth_word}
use Rattle.net_grow.proofs.Made.{rule_of, outward_made, outward_fits}
use Rattle.net_grow.proofs.Sequence.{drawn, stands}
use Rattle.net_grow.proofs.rules.outward.Goals as goal

pub returns-clause-rule : goal.returns-clause-rule
returns-clause-rule c =
    let g = c.args.words.now in
    let second = stands g c.draw.new.words c.draw-2.new.words 1 c.draw.ensures.rest c.draw-2.ensures.rest in
    let third = stands g c.draw-2.new.words c.draw-3.new.words 2 second c.draw-3.ensures.rest in
    let a = c.draw.ensures.word in
    let b = drawn g c.draw.new.words 1 c.draw-2.result c.draw.ensures.rest c.draw-2.ensures.word in
    let d = drawn g c.draw-2.new.words 2 c.draw-3.result second c.draw-3.ensures.word in
    let f = drawn g c.draw-3.new.words 3 c.draw-byte.result third c.draw-byte.ensures.word in
    let high : c.draw-2.result < 2 ^ 32 = omega arith in
    let low : c.draw-3.result < 2 ^ 32 = omega arith in
    let both : c.from-first.result * 2 ^ 32 % 2 ^ 64 + c.from-second.result ≡ c.draw-2.result * 2 ^ 32 % 2 ^ 64 + c.draw-3.result =
    λ i. c.from-first.ensures i * 2 ^ 32 % 2 ^ 64 + c.from-second.ensures i
    in
    (λ i. rule_of (c.of.ensures i) (c.of-2.ensures i) (4 + c.draw.result % 30) (OnePort (c.of-3.ensures i)) c.beginning.result (action c.outward_action.result))
    ∙ outward_made c.args.edge c.args.index c.draw.result c.draw-2.result c.draw-3.result c.draw-byte.result
    (c.from-first.result * 2 ^ 32 % 2 ^ 64 + c.from-second.result) c.beginning.result (action c.outward_action.result)
    high low both c.beginning.ensures c.outward_action.ensures
    ∙ (λ i. outward c.args.edge c.args.index (a i) (b i) (d i) (f i))

pub returns-clause-fits : goal.returns-clause-fits
returns-clause-fits c =
    let g = c.args.words.now in
    let AllFit : Numbered → Type 0 = λ (r : Numbered). Fits r.1 in
    subst AllFit (sym (returns-clause-rule c))
    (outward_fits c.args.edge c.args.index (nth_word g 0) (nth_word g 1) (nth_word g 2) (nth_word g 3) c.requires.0)

pub returns-clause-words : goal.returns-clause-words
returns-clause-words c =
    let g = c.args.words.now in
    let second = stands g c.draw.new.words c.draw-2.new.words 1 c.draw.ensures.rest c.draw-2.ensures.rest in
    let third = stands g c.draw-2.new.words c.draw-3.new.words 2 second c.draw-3.ensures.rest in
    stands g c.draw-3.new.words c.draw-byte.new.words 3 third c.draw-byte.ensures.rest
