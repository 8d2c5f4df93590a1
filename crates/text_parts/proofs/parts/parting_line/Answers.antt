use Rattle.std.proofs.Common.{◌==◌, refl, ◌+◌, ◌++◌, ◌∷◌, [], length, sym, ap, ◌∙◌, rules, tests, arith}
use Rattle.std.proofs.lemmas.List.{length_push, take_all}
use Rattle.std.proofs.lemmas.Iterator.Consumers.{YieldsList-turn, YieldsList-end}
use Rattle.std.proofs.lemmas.Iterator.Splits.{YieldsList-from_slice_split}
use Rattle.std.specs.List.{list_any}
use Rattle.text_words.specs.Words.{lines_of}
use Rattle.text_parts.proofs.Cuts.{parts_at, no_parting, line_within, next_start, not_parted, parting}
use Rattle.text_parts.proofs.parts.parting_line.Goals as goal

pub overflow_add-end : goal.overflow_add-end
overflow_add-end c =
    let text = c.args.text.now in
    let turn = YieldsList-turn (YieldsList-from_slice_split _ (λ b. b == 10) text (cc) (cc) (cc) (λ x b q k. search (rules, tests))) c.loop-line.yielded _ c.loop-line.yielded_by _ _ c.in-Some.line c.in-Some.is c.next.ensures.steps in
    let within = line_within c.args.name.now text (length c.loop-line.yielded) c.in-Some.line.now c.loop-line.start turn.0 turn.1 c.loop-line.invariant.begins in
    omega (arith, within, c.well_formed.0.1)

pub returns-then-is_only_word-clause-some : goal.returns-then-is_only_word-clause-some
returns-then-is_only_word-clause-some c =
    let text = c.args.text.now in
    let turn = YieldsList-turn (YieldsList-from_slice_split _ (λ b. b == 10) text (cc) (cc) (cc) (λ x b q k. search (rules, tests))) c.loop-line.yielded _ c.loop-line.yielded_by _ _ c.in-Some.line c.in-Some.is c.next.ensures.steps in
    parting c.args.name.now text (length c.loop-line.yielded) c.in-Some.line.now c.loop-line.start turn.0 turn.1 c.loop-line.invariant.begins c.loop-line.invariant.before
    (c.loop-line.start + length c.in-Some.line.now) refl (sym c.is_only_word.ensures ∙ c.if-is_only_word.true)

pub overflow_add-start : goal.overflow_add-start
overflow_add-start c =
    let text = c.args.text.now in
    let turn = YieldsList-turn (YieldsList-from_slice_split _ (λ b. b == 10) text (cc) (cc) (cc) (λ x b q k. search (rules, tests))) c.loop-line.yielded _ c.loop-line.yielded_by _ _ c.in-Some.line c.in-Some.is c.next.ensures.steps in
    let within = line_within c.args.name.now text (length c.loop-line.yielded) c.in-Some.line.now c.loop-line.start turn.0 turn.1 c.loop-line.invariant.begins in
    omega (arith, within, c.well_formed.0.1)

pub loop-line-preserved : goal.loop-line-preserved
loop-line-preserved c =
    let text = c.args.text.now in
    let turn = YieldsList-turn (YieldsList-from_slice_split _ (λ b. b == 10) text (cc) (cc) (cc) (λ x b q k. search (rules, tests))) c.loop-line.yielded _ c.loop-line.yielded_by _ _ c.in-Some.line c.in-Some.is c.next.ensures.steps in
    let more = length_push c.loop-line.yielded c.in-Some.line in
    record {
      begins = next_start c.args.name.now text (length c.loop-line.yielded) c.in-Some.line.now c.loop-line.start turn.0 turn.1 c.loop-line.invariant.begins
          (length (c.loop-line.yielded ++ c.in-Some.line ∷ [])) more;
      before = not_parted c.args.name.now text (length c.loop-line.yielded) c.in-Some.line.now c.loop-line.start turn.0 turn.1 c.loop-line.invariant.begins c.loop-line.invariant.before
          (length (c.loop-line.yielded ++ c.in-Some.line ∷ [])) more (sym c.is_only_word.ensures ∙ c.if-is_only_word.false);
    }

pub returns-clause-none : goal.returns-clause-none
returns-clause-none c =
    let text = c.args.text.now in
    let all = YieldsList-end (YieldsList-from_slice_split _ (λ b. b == 10) text (cc) (cc) (cc) (λ x b q k. search (rules, tests))) c.loop-line.yielded _ c.loop-line.yielded_by _ _ c.in-None.is c.next.ensures.steps in
    no_parting c.args.name.now (lines_of text)
    (ap (list_any (parts_at c.args.name.now)) (sym (take_all (length c.loop-line.yielded) (lines_of text) (omega (arith, all.1)))) ∙ c.loop-line.invariant.before)
