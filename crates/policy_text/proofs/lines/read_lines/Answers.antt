use Rattle.std.proofs.Common.{◌≡◌, ◌==◌, ◌+◌, ◌<◌, Option, Ok, Err, Some, None, length, get_or, refl, subst, IfSome, sym, ap, ◌∙◌, rules, tests, arith}
use Rattle.std.proofs.lemmas.List.{length_push}
use Rattle.std.proofs.lemmas.List.Elements.{All-nil, All-push}
use Rattle.std.proofs.lemmas.Iterator.Consumers.{YieldsList-turn, YieldsList-end}
use Rattle.std.proofs.lemmas.Iterator.Splits.{YieldsList-from_slice_split}
use Rattle.text_words.specs.Words.{lines_of, words_of}
use Rattle.policy_check.specs.PolicyLines.{policy_of}
use Rattle.policy_check.specs.declared.policy.Policy.{Policy}
use Rattle.policy_text.proofs.Readings.{begin, nothing_more, policy_more, faulty_line, all_lines}
use Rattle.policy_text.proofs.lines.read_lines.Goals as goal

pub loop-line-preserved-in-Continue-1 : goal.loop-line-preserved-in-Continue-1
loop-line-preserved-in-Continue-1 c =
    let ls = lines_of c.args.part.now in
    let n = c.loop-line.number in
    let line = c.in-Some.line.now in
    let turn = YieldsList-turn (YieldsList-from_slice_split _ (λ b. b == 10) c.args.part.now (cc) (cc) (cc) (λ x b q k. search (rules, tests))) c.loop-line.yielded _ c.loop-line.yielded_by _ _ c.in-Some.line c.in-Some.is c.next.ensures.steps in
    let inside : n < length ls = omega (arith, turn.0, c.loop-line.invariant.counted) in
    let own : line ≡ get_or ls n line = turn.1 ∙ ap (λ k. get_or ls k line) (sym c.loop-line.invariant.counted) in
    let says : Ok (Some c.in-Ok-Some.policy) ≡ policy_of c.args.net.now (words_of line) = ap (λ (o : Option Policy). Ok o) (sym c.in-Ok-Some.field-0-is) ∙ c.in-Ok-Some.ensures.policy in
    let items = c.in_ok-push-in-Ok-Some.ensures.items in
    record {
      counted = ap (λ k. k + 1) c.loop-line.invariant.counted ∙ sym (length_push c.loop-line.yielded c.in-Some.line);
      so_far = rw items (policy_more c.args.net.now ls n line c.loop-line.policies.items inside own c.loop-line.invariant.so_far c.in-Ok-Some.policy says);
      widths = rw items (All-push (λ (p : Policy). length p.pattern ≡ c.args.net.now.width) c.loop-line.policies.items c.in-Ok-Some.policy c.loop-line.invariant.widths
          (subst (λ (o : Option Policy). IfSome o (λ p. length p.pattern ≡ c.args.net.now.width)) c.in-Ok-Some.field-0-is c.in-Ok-Some.ensures.width));
    }

pub loop-line-preserved : goal.loop-line-preserved
loop-line-preserved c =
    let ls = lines_of c.args.part.now in
    let n = c.loop-line.number in
    let line = c.in-Some.line.now in
    let turn = YieldsList-turn (YieldsList-from_slice_split _ (λ b. b == 10) c.args.part.now (cc) (cc) (cc) (λ x b q k. search (rules, tests))) c.loop-line.yielded _ c.loop-line.yielded_by _ _ c.in-Some.line c.in-Some.is c.next.ensures.steps in
    let inside : n < length ls = omega (arith, turn.0, c.loop-line.invariant.counted) in
    let own : line ≡ get_or ls n line = turn.1 ∙ ap (λ k. get_or ls k line) (sym c.loop-line.invariant.counted) in
    let says : Ok None ≡ policy_of c.args.net.now (words_of line) = ap (λ (o : Option Policy). Ok o) (sym c.in-Ok-None.field-0-is) ∙ c.in-Ok-None.ensures.policy in
    record {
      counted = ap (λ k. k + 1) c.loop-line.invariant.counted ∙ sym (length_push c.loop-line.yielded c.in-Some.line);
      so_far = nothing_more c.args.net.now ls n line c.loop-line.policies.items inside own c.loop-line.invariant.so_far says;
      widths = c.loop-line.invariant.widths;
    }

pub returns-in-Err-clause-err : goal.returns-in-Err-clause-err
returns-in-Err-clause-err c =
    let ls = lines_of c.args.part.now in
    let n = c.loop-line.number in
    let line = c.in-Some.line.now in
    let turn = YieldsList-turn (YieldsList-from_slice_split _ (λ b. b == 10) c.args.part.now (cc) (cc) (cc) (λ x b q k. search (rules, tests))) c.loop-line.yielded _ c.loop-line.yielded_by _ _ c.in-Some.line c.in-Some.is c.next.ensures.steps in
    let inside : n < length ls = omega (arith, turn.0, c.loop-line.invariant.counted) in
    let own : line ≡ get_or ls n line = turn.1 ∙ ap (λ k. get_or ls k line) (sym c.loop-line.invariant.counted) in
    let says : Err c.in-Err.fault ≡ policy_of c.args.net.now (words_of line) = c.in-Err.ensures.policy in
    faulty_line c.args.net.now ls n line c.loop-line.policies.items inside own c.loop-line.invariant.so_far c.in-Err.fault says

pub returns-clause-ok : goal.returns-clause-ok
returns-clause-ok c =
    let ls = lines_of c.args.part.now in
    let all = YieldsList-end (YieldsList-from_slice_split _ (λ b. b == 10) c.args.part.now (cc) (cc) (cc) (λ x b q k. search (rules, tests))) c.loop-line.yielded _ c.loop-line.yielded_by _ _ c.in-None.is c.next.ensures.steps in
    all_lines c.args.net.now ls c.loop-line.number c.loop-line.policies.items (omega (arith, all.1, c.loop-line.invariant.counted)) c.loop-line.invariant.so_far

-- before the first line
pub loop-line-init : goal.loop-line-init
loop-line-init c = record {
  counted = refl;
  so_far = rw c.new-policies.ensures.items (begin c.args.net.now (lines_of c.args.part.now));
  widths = rw c.new-policies.ensures.items (All-nil (λ (p : Policy). length p.pattern ≡ c.args.net.now.width));
}
