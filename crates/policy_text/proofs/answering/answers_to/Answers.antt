use Rattle.std.proofs.Common.{◌+◌, ◌++◌, cond, sym, ap, ◌∙◌, subst, arith}
use Rattle.policy_text.specs.Answers.{IsVerdict, answer}
use Rattle.policy_text.proofs.Verdicts.{HasAnswered, none_answered, decided, answered_more}
use Rattle.policy_text.proofs.answering.answers_to.Goals as goal
use Rattle.policy_text.proofs.answering.answers_to.Goals.{then-is_some, else-is_some}

pub loop-i-init : goal.loop-i-init
loop-i-init c = record {
  answered = none_answered c.args.net.now c.args.hops c.args.policies.now c.new-text.result.items c.new-text.ensures.items;
  few = omega arith;
}

pub loop-i-preserved : goal.loop-i-preserved
loop-i-preserved c =
    let net = c.args.net.now in
    let policies = c.args.policies.now in
    let policy = c.index-policies-i.result in
    let found = c.in_ok-found.found in
    let is_so : IsVerdict net c.args.hops policy found = decided net c.args.hops policy found c.in_ok-found.ensures.none c.in_ok-found.ensures.least in
    elim c.if-is_some.branch [
      | then-is_some w ↦ record {
        answered = rw (w.broken-is, c.in_ok-put_answer.ensures)
            (answered_more net c.args.hops policies c.loop-i.i c.loop-i.broken c.loop-i.text.items policy found c.loop-i-test.true c.index-policies-i.is is_so c.loop-i.invariant.answered
            1 (ap (λ b. cond b 1 0) (sym c.is_some.ensures ∙ w.if-is_some.true)));
        few = omega (arith, w.broken-is, c.loop-i.invariant.few);
      }
      | else-is_some w ↦ record {
        answered = rw (w.broken-is, c.in_ok-put_answer.ensures)
            (subst (λ k. HasAnswered net c.args.hops policies (c.loop-i.i + 1) k (c.loop-i.text.items ++ answer (c.loop-i.i + 1) found)) (omega arith)
            (answered_more net c.args.hops policies c.loop-i.i c.loop-i.broken c.loop-i.text.items policy found c.loop-i-test.true c.index-policies-i.is is_so c.loop-i.invariant.answered
            0 (ap (λ b. cond b 1 0) (sym c.is_some.ensures ∙ w.if-is_some.false))));
        few = omega (arith, w.broken-is, c.loop-i.invariant.few);
      }
    ]
