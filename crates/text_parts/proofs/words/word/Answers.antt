use Rattle.std.proofs.Common.{◌==◌, ℕ, ◌<◌, List, length, sym, ap, ◌∙◌, rules, tests, arith}
use Rattle.std.specs.List.{before_first, slice_split, slice_get, filter}
use Rattle.std.proofs.lemmas.Bool.{eqb-true, eqb-false}
use Rattle.std.proofs.lemmas.Iterator.Consumers.{YieldsList-turn, YieldsList-end}
use Rattle.std.proofs.lemmas.Iterator.Splits.{YieldsList-from_slice_split}
use Rattle.text_words.specs.Words.{is_blank, is_word}
use Rattle.text_words.proofs.FirstWords.{IsPart}
use Rattle.text_parts.proofs.LineWords.{one_word_more, no_word_more, found_word, no_such_word}
use Rattle.text_parts.proofs.words.word.Goals as goal

-- the parts of a line before its comment
abbrev parts_of : List ℕ → List (List ℕ)
parts_of line = slice_split is_blank (before_first (λ b. b == 35) line)

pub loop-part-preserved-then-is_empty : goal.loop-part-preserved-then-is_empty
loop-part-preserved-then-is_empty c =
    let parts = parts_of c.args.line.now in
    let at : IsPart parts (length c.loop-part.yielded) c.in-Some.part = YieldsList-turn (YieldsList-from_slice_split _ is_blank (before_first (λ b. b == 35) c.args.line.now) (cc) (cc) (cc) (λ x b q k. search (rules, tests))) c.loop-part.yielded _ c.loop-part.yielded_by _ _ c.in-Some.part c.in-Some.is c.next.ensures.steps in
    record {
      count = no_word_more parts c.loop-part.yielded c.in-Some.part c.loop-part.before at c.loop-part.invariant.count (eqb-true _ _ (sym c.is_empty.ensures ∙ c.if-is_empty.true));
      few = c.loop-part.invariant.few;
    }

pub loop-part-preserved : goal.loop-part-preserved
loop-part-preserved c =
    let parts = parts_of c.args.line.now in
    let at : IsPart parts (length c.loop-part.yielded) c.in-Some.part = YieldsList-turn (YieldsList-from_slice_split _ is_blank (before_first (λ b. b == 35) c.args.line.now) (cc) (cc) (cc) (λ x b q k. search (rules, tests))) c.loop-part.yielded _ c.loop-part.yielded_by _ _ c.in-Some.part c.in-Some.is c.next.ensures.steps in
    let word : 0 < length c.in-Some.part.now = omega (arith, eqb-false (length c.in-Some.part.now) 0 (sym c.is_empty.ensures ∙ c.if-is_empty.false)) in
    record {
      count = one_word_more parts c.loop-part.yielded c.in-Some.part c.loop-part.before at c.loop-part.invariant.count word;
      few = omega (arith, c.loop-part.invariant.few, c.if-before-place.false);
    }

pub returns-then-before-place : goal.returns-then-before-place
returns-then-before-place c =
    let parts = parts_of c.args.line.now in
    let at : IsPart parts (length c.loop-part.yielded) c.in-Some.part = YieldsList-turn (YieldsList-from_slice_split _ is_blank (before_first (λ b. b == 35) c.args.line.now) (cc) (cc) (cc) (λ x b q k. search (rules, tests))) c.loop-part.yielded _ c.loop-part.yielded_by _ _ c.in-Some.part c.in-Some.is c.next.ensures.steps in
    let word : 0 < length c.in-Some.part.now = omega (arith, eqb-false (length c.in-Some.part.now) 0 (sym c.is_empty.ensures ∙ c.if-is_empty.false)) in
    found_word parts c.loop-part.yielded c.in-Some.part c.loop-part.before at c.loop-part.invariant.count word
    ∙ ap (slice_get (filter is_word parts)) c.if-before-place.true

pub returns : goal.returns
returns c =
    let parts = parts_of c.args.line.now in
    let all = YieldsList-end (YieldsList-from_slice_split _ is_blank (before_first (λ b. b == 35) c.args.line.now) (cc) (cc) (cc) (λ x b q k. search (rules, tests))) c.loop-part.yielded _ c.loop-part.yielded_by _ _ c.in-None.is c.next.ensures.steps in
    no_such_word parts (length c.loop-part.yielded) c.loop-part.before c.args.place (omega (arith, all.1)) c.loop-part.invariant.count c.loop-part.invariant.few
