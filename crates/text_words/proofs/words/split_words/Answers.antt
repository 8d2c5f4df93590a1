use Rattle.std.proofs.Common.{◌==◌, ℕ, ◌<◌, List, length, map, Result, Ok, Err, sym, ap, ◌∙◌, rules, tests, arith}
use Rattle.std.specs.Prelude.{OnErr}
use Rattle.std.specs.List.{before_first, slice_split}
use Rattle.std.proofs.lemmas.Bool.{eqb-true, eqb-false}
use Rattle.std.proofs.lemmas.List.{take_all}
use Rattle.std.proofs.lemmas.Iterator.Consumers.{YieldsList-turn, YieldsList-end}
use Rattle.std.proofs.lemmas.Iterator.Splits.{YieldsList-from_slice_split}
use Rattle.std.proofs.Math.Seq.{take-nil}
use Rattle.text_words.specs.Words.{is_blank}
use Rattle.text_words.proofs.FirstWords.{IsPart, first_words, words_pushed, words_kept, words_full, words_cut}
use Rattle.text_words.proofs.words.split_words.Goals as goal

-- the parts of a line before its comment
abbrev parts_of : List ℕ → List (List ℕ)
parts_of line = slice_split is_blank (before_first (λ b. b == 35) line)

on_err : {T E : Type 0} {P : Type 0} (r : Result T E) → P → OnErr r P
on_err (Ok x) p = tt
on_err (Err e) p = p

pub loop-part-init : goal.loop-part-init
loop-part-init c = rw c.clear.ensures.items (sym (take-nil c.args.most))

pub loop-part-preserved-then-is_empty : goal.loop-part-preserved-then-is_empty
loop-part-preserved-then-is_empty c =
    let parts = parts_of c.args.line.now in
    let at : IsPart parts (length c.loop-part.yielded) c.in-Some.part = YieldsList-turn (YieldsList-from_slice_split _ is_blank (before_first (λ b. b == 35) c.args.line.now) (cc) (cc) (cc) (λ x b q k. search (rules, tests))) c.loop-part.yielded _ c.loop-part.yielded_by _ _ c.in-Some.part c.in-Some.is c.next.ensures.steps in
    words_kept c.args.most parts c.loop-part.yielded c.loop-part.words.items c.in-Some.part at c.loop-part.invariant (eqb-true _ _ (sym c.is_empty.ensures ∙ c.if-is_empty.true))

pub loop-part-preserved : goal.loop-part-preserved
loop-part-preserved c =
    let parts = parts_of c.args.line.now in
    let at : IsPart parts (length c.loop-part.yielded) c.in-Some.part = YieldsList-turn (YieldsList-from_slice_split _ is_blank (before_first (λ b. b == 35) c.args.line.now) (cc) (cc) (cc) (λ x b q k. search (rules, tests))) c.loop-part.yielded _ c.loop-part.yielded_by _ _ c.in-Some.part c.in-Some.is c.next.ensures.steps in
    let word : 0 < length c.in-Some.part.now = omega (arith, eqb-false (length c.in-Some.part.now) 0 (sym c.is_empty.ensures ∙ c.if-is_empty.false)) in
    words_pushed c.args.most parts c.loop-part.yielded c.loop-part.words.items c.push.new.self.items c.in-Some.part at c.loop-part.invariant word
    (λ full. c.if-len-most.false (c.len.ensures ∙ c.loop-part.words.ok.0 ∙ full)) c.in_ok-push.ensures.items

pub returns-in-None-clause-ok : goal.returns-in-None-clause-ok
returns-in-None-clause-ok c =
    let parts = parts_of c.args.line.now in
    let all = YieldsList-end (YieldsList-from_slice_split _ is_blank (before_first (λ b. b == 35) c.args.line.now) (cc) (cc) (cc) (λ x b q k. search (rules, tests))) c.loop-part.yielded _ c.loop-part.yielded_by _ _ c.in-None.is c.next.ensures.steps in
    c.loop-part.invariant ∙ ap (first_words c.args.most) (take_all (length c.loop-part.yielded) parts (omega (arith, all.1)))

pub returns-then-len-most-clause-ok : goal.returns-then-len-most-clause-ok
returns-then-len-most-clause-ok c =
    words_full c.args.most (parts_of c.args.line.now) (length c.loop-part.yielded) c.loop-part.words.items c.loop-part.invariant (sym c.loop-part.words.ok.0 ∙ sym c.len.ensures ∙ c.if-len-most.true)

pub returns-in_err-push-clause-err : goal.returns-in_err-push-clause-err
returns-in_err-push-clause-err c =
    let cut = words_cut c.args.most (parts_of c.args.line.now) (length c.loop-part.yielded) c.loop-part.words.items c.loop-part.invariant in
    on_err c.from_residual.result (length c.loop-part.words.items, ap (map (λ w. w.now)) c.in_err-push.ensures.items ∙ cut)
