use Rattle.std.proofs.Common.{◌==◌, ℕ, ◌<◌, List, length, sym, ap, ◌∙◌, rules, tests, arith}
use Rattle.std.specs.List.{before_first, slice_split}
use Rattle.std.proofs.lemmas.Bool.{eqb-true, eqb-false}
use Rattle.std.proofs.lemmas.List.{take_all}
use Rattle.std.proofs.lemmas.Iterator.Consumers.{YieldsList-turn, YieldsList-end}
use Rattle.std.proofs.lemmas.Iterator.Splits.{YieldsList-from_slice_split}
use Rattle.text_words.specs.Words.{is_blank}
use Rattle.text_words.proofs.FirstWords.{IsPart, first_words, words_pushed, words_kept, words_full}
use Rattle.session_lines.proofs.words.first_words.Goals as goal

-- the parts of a line before its comment
abbrev parts_of : List ℕ → List (List ℕ)
parts_of line = slice_split is_blank (before_first (λ b. b == 35) line)

pub loop-part-preserved-then-is_empty : goal.loop-part-preserved-then-is_empty
loop-part-preserved-then-is_empty c =
    let parts = parts_of c.args.line.now in
    let at : IsPart parts (length c.loop-part.yielded) c.in-Some.part = YieldsList-turn (YieldsList-from_slice_split _ is_blank (before_first (λ b. b == 35) c.args.line.now) (cc) (cc) (cc) (λ x b q k. search (rules, tests))) c.loop-part.yielded _ c.loop-part.yielded_by _ _ c.in-Some.part c.in-Some.is c.next.ensures.steps in
    words_kept 9 parts c.loop-part.yielded c.loop-part.words.items c.in-Some.part at c.loop-part.invariant (eqb-true _ _ (sym c.is_empty.ensures ∙ c.if-is_empty.true))

pub loop-part-preserved : goal.loop-part-preserved
loop-part-preserved c =
    let parts = parts_of c.args.line.now in
    let at : IsPart parts (length c.loop-part.yielded) c.in-Some.part = YieldsList-turn (YieldsList-from_slice_split _ is_blank (before_first (λ b. b == 35) c.args.line.now) (cc) (cc) (cc) (λ x b q k. search (rules, tests))) c.loop-part.yielded _ c.loop-part.yielded_by _ _ c.in-Some.part c.in-Some.is c.next.ensures.steps in
    let word : 0 < length c.in-Some.part.now = omega (arith, eqb-false (length c.in-Some.part.now) 0 (sym c.is_empty.ensures ∙ c.if-is_empty.false)) in
    words_pushed 9 parts c.loop-part.yielded c.loop-part.words.items c.push.new.self.items c.in-Some.part at c.loop-part.invariant word
    (λ full. c.if-len-eq-MOST_WORDS.false (c.len.ensures.value ∙ full)) c.push.ensures.items

pub returns-in-None : goal.returns-in-None
returns-in-None c =
    let parts = parts_of c.args.line.now in
    let all = YieldsList-end (YieldsList-from_slice_split _ is_blank (before_first (λ b. b == 35) c.args.line.now) (cc) (cc) (cc) (λ x b q k. search (rules, tests))) c.loop-part.yielded _ c.loop-part.yielded_by _ _ c.in-None.is c.next.ensures.steps in
    c.loop-part.invariant ∙ ap (first_words 9) (take_all (length c.loop-part.yielded) parts (omega (arith, all.1)))

pub returns-then-len-eq-MOST_WORDS : goal.returns-then-len-eq-MOST_WORDS
returns-then-len-eq-MOST_WORDS c =
    words_full 9 (parts_of c.args.line.now) (length c.loop-part.yielded) c.loop-part.words.items c.loop-part.invariant (sym c.len.ensures.value ∙ c.if-len-eq-MOST_WORDS.true)
