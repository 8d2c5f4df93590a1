use Rattle.std.proofs.Common.{◌≡◌, suc, ◌-◌, List, length, sym, ◌∙◌, subst, arith}
use Rattle.std.specs.List.{Contains}
use Rattle.std.proofs.lemmas.List.{map-id}
use Rattle.std.proofs.lemmas.Iterator.Adapters.{YieldsList-from_vec}
use Rattle.std.proofs.lemmas.Iterator.Consumers.{YieldsList-turn, YieldsList-end}
use Rattle.box_step.specs.declared.branches.Branch.{Branch}
use Rattle.policy_check.specs.Outcomes.{BreaksFrom}
use Rattle.policy_check.specs.Narrowing.{IsNarrowed}
use Rattle.policy_check.proofs.Following.{other_width, branch_wide, branch_passed, branch_obeys, branch_breaks, branch_goes_on, IsDone, known, done_none, done_more, done_all}
use Rattle.policy_check.proofs.search.+lower_part.Goals as goal

-- one branch after another
pub loop-branch-preserved-in-Obeys-1 : goal.loop-branch-preserved-in-Obeys-1
loop-branch-preserved-in-Obeys-1 t c =
    let net = c.args.net.now in
    let policy = c.args.policy.now in
    let part = c.args.part.now in
    let branches : List Branch = c.in_ok-branch-items.branch-items.items in
    let branch = c.in-Some.branch in
    let turn = YieldsList-turn (YieldsList-from_vec {s = c.into_iter-branch-iterator.result} branches (cc) (cc)) c.loop-branch.yielded c.loop-branch.branch-iterator c.loop-branch.yielded_by c.next.result c.next.new.self branch c.in-Some.is c.next.ensures.steps in
    let there : Contains branches branch = (length c.loop-branch.yielded, turn.0, sym turn.1) in
    let k = known net policy (c.args.left - 1) part branches c.in_ok-branch-items.ensures branch there in
    record {
      width = c.loop-branch.invariant.width;
      narrowed = done_more net policy (c.args.left - 1) part branches c.in_ok-branch-items.ensures c.loop-branch.yielded branch there c.args.least.now c.loop-branch.least c.loop-branch.least
          c.loop-branch.invariant.narrowed
          (branch_obeys net policy (c.args.left - 1) part c.bits-2.ensures.well_formed k.rule branch k.is k.first k.member (sym c.behind_rule.ensures ∙ c.in-Obeys.is) c.loop-branch.least);
    }

pub lower-requires : goal.lower-requires
lower-requires t c =
    let net = c.args.net.now in
    let policy = c.args.policy.now in
    let part = c.args.part.now in
    let branches : List Branch = c.in_ok-branch-items.branch-items.items in
    let branch = c.in-Some.branch in
    let turn = YieldsList-turn (YieldsList-from_vec {s = c.into_iter-branch-iterator.result} branches (cc) (cc)) c.loop-branch.yielded c.loop-branch.branch-iterator c.loop-branch.yielded_by c.next.result c.next.new.self branch c.in-Some.is c.next.ensures.steps in
    let there : Contains branches branch = (length c.loop-branch.yielded, turn.0, sym turn.1) in
    let k = known net policy (c.args.left - 1) part branches c.in_ok-branch-items.ensures branch there in
    other_width c.loop-branch.least net.width branch.space.width (sym k.is.width) c.loop-branch.invariant.width

pub loop-branch-preserved-in-Breaks-1 : goal.loop-branch-preserved-in-Breaks-1
loop-branch-preserved-in-Breaks-1 t c =
    let net = c.args.net.now in
    let policy = c.args.policy.now in
    let part = c.args.part.now in
    let branches : List Branch = c.in_ok-branch-items.branch-items.items in
    let branch = c.in-Some.branch in
    let turn = YieldsList-turn (YieldsList-from_vec {s = c.into_iter-branch-iterator.result} branches (cc) (cc)) c.loop-branch.yielded c.loop-branch.branch-iterator c.loop-branch.yielded_by c.next.result c.next.new.self branch c.in-Some.is c.next.ensures.steps in
    let there : Contains branches branch = (length c.loop-branch.yielded, turn.0, sym turn.1) in
    let k = known net policy (c.args.left - 1) part branches c.in_ok-branch-items.ensures branch there in
    record {
      width = other_width c.lower.new.least branch.space.width net.width k.is.width c.lower.ensures.width;
      narrowed = done_more net policy (c.args.left - 1) part branches c.in_ok-branch-items.ensures c.loop-branch.yielded branch there c.args.least.now c.loop-branch.least c.lower.new.least
          c.loop-branch.invariant.narrowed
          (branch_breaks net policy (c.args.left - 1) part c.bits-2.ensures.well_formed k.rule branch k.is k.first k.member (sym c.behind_rule.ensures ∙ c.in-Breaks.is) c.loop-branch.least c.lower.new.least c.lower.ensures.narrowed);
    }

pub has_lesser-requires : goal.has_lesser-requires
has_lesser-requires t c =
    let net = c.args.net.now in
    let policy = c.args.policy.now in
    let part = c.args.part.now in
    let branches : List Branch = c.in_ok-branch-items.branch-items.items in
    let branch = c.in-Some.branch in
    let turn = YieldsList-turn (YieldsList-from_vec {s = c.into_iter-branch-iterator.result} branches (cc) (cc)) c.loop-branch.yielded c.loop-branch.branch-iterator c.loop-branch.yielded_by c.next.result c.next.new.self branch c.in-Some.is c.next.ensures.steps in
    let there : Contains branches branch = (length c.loop-branch.yielded, turn.0, sym turn.1) in
    let k = known net policy (c.args.left - 1) part branches c.in_ok-branch-items.ensures branch there in
    other_width c.loop-branch.least net.width branch.space.width (sym k.is.width) c.loop-branch.invariant.width

pub lower_part-requires : goal.lower_part-requires
lower_part-requires t c =
    let net = c.args.net.now in
    let policy = c.args.policy.now in
    let part = c.args.part.now in
    let branches : List Branch = c.in_ok-branch-items.branch-items.items in
    let branch = c.in-Some.branch in
    let turn = YieldsList-turn (YieldsList-from_vec {s = c.into_iter-branch-iterator.result} branches (cc) (cc)) c.loop-branch.yielded c.loop-branch.branch-iterator c.loop-branch.yielded_by c.next.result c.next.new.self branch c.in-Some.is c.next.ensures.steps in
    let there : Contains branches branch = (length c.loop-branch.yielded, turn.0, sym turn.1) in
    let k = known net policy (c.args.left - 1) part branches c.in_ok-branch-items.ensures branch there in (
      omega (arith, c.if-left-eq0.false, c.decreases),
      (k.is.width, (branch_wide net policy (c.args.left - 1) part c.bits-2.ensures.well_formed k.rule branch k.is k.first k.member c.requires.rewrite, c.loop-branch.invariant.width)),
    )

pub loop-branch-preserved-then-has_lesser : goal.loop-branch-preserved-then-has_lesser
loop-branch-preserved-then-has_lesser t c =
    let net = c.args.net.now in
    let policy = c.args.policy.now in
    let part = c.args.part.now in
    let branches : List Branch = c.in_ok-branch-items.branch-items.items in
    let branch = c.in-Some.branch in
    let turn = YieldsList-turn (YieldsList-from_vec {s = c.into_iter-branch-iterator.result} branches (cc) (cc)) c.loop-branch.yielded c.loop-branch.branch-iterator c.loop-branch.yielded_by c.next.result c.next.new.self branch c.in-Some.is c.next.ensures.steps in
    let there : Contains branches branch = (length c.loop-branch.yielded, turn.0, sym turn.1) in
    let k = known net policy (c.args.left - 1) part branches c.in_ok-branch-items.ensures branch there in
    record {
      width = c.in_ok-lower_part-in-GoesOn.ensures.width;
      narrowed = done_more net policy (c.args.left - 1) part branches c.in_ok-branch-items.ensures c.loop-branch.yielded branch there c.args.least.now c.loop-branch.least c.lower_part.new.least
          c.loop-branch.invariant.narrowed
          (branch_goes_on net policy (c.args.left - 1) part c.bits-2.ensures.well_formed k.rule branch k.is k.first k.member c.in-GoesOn.port (sym c.behind_rule.ensures ∙ c.in-GoesOn.is) c.loop-branch.least c.lower_part.new.least c.in_ok-lower_part-in-GoesOn.ensures.narrowed);
    }

pub loop-branch-preserved : goal.loop-branch-preserved
loop-branch-preserved t c =
    let net = c.args.net.now in
    let policy = c.args.policy.now in
    let part = c.args.part.now in
    let branches : List Branch = c.in_ok-branch-items.branch-items.items in
    let branch = c.in-Some.branch in
    let turn = YieldsList-turn (YieldsList-from_vec {s = c.into_iter-branch-iterator.result} branches (cc) (cc)) c.loop-branch.yielded c.loop-branch.branch-iterator c.loop-branch.yielded_by c.next.result c.next.new.self branch c.in-Some.is c.next.ensures.steps in
    let there : Contains branches branch = (length c.loop-branch.yielded, turn.0, sym turn.1) in
    let k = known net policy (c.args.left - 1) part branches c.in_ok-branch-items.ensures branch there in
    record {
      width = c.loop-branch.invariant.width;
      narrowed = done_more net policy (c.args.left - 1) part branches c.in_ok-branch-items.ensures c.loop-branch.yielded branch there c.args.least.now c.loop-branch.least c.loop-branch.least
          c.loop-branch.invariant.narrowed
          (branch_passed net policy (c.args.left - 1) part branch c.loop-branch.least c.if-has_lesser.ensures);
    }

-- before the first branch, and after the last
pub loop-branch-init : goal.loop-branch-init
loop-branch-init t c = record {
  width = c.in_ok-lower_unmatched.ensures.width;
  narrowed = done_none c.args.net.now c.args.policy.now (c.args.left - 1) c.args.part.now c.in_ok-branch-items.branch-items.items c.in_ok-branch-items.ensures
      c.args.least.now c.lower_unmatched.new.least c.in_ok-lower_unmatched.ensures.narrowed;
}

pub returns-clause-narrowed : goal.returns-clause-narrowed
returns-clause-narrowed t c =
    let net = c.args.net.now in
    let policy = c.args.policy.now in
    let part = c.args.part.now in
    let below = c.args.left - 1 in
    let branches : List Branch = c.in_ok-branch-items.branch-items.items in
    let end = YieldsList-end (YieldsList-from_vec {s = c.into_iter-branch-iterator.result} branches (cc) (cc)) c.loop-branch.yielded c.loop-branch.branch-iterator c.loop-branch.yielded_by c.next.result c.next.new.self c.in-None.is c.next.ensures.steps in
    let all : c.loop-branch.yielded ≡ branches = sym (map-id c.loop-branch.yielded) ∙ end.0 in
    let above : suc below ≡ c.args.left = omega (arith, c.if-left-eq0.false) in
    let done : IsNarrowed (IsDone net policy below part branches) c.args.least.now c.loop-branch.least =
    subst (λ (bs : List Branch). IsNarrowed (IsDone net policy below part bs) c.args.least.now c.loop-branch.least) all c.loop-branch.invariant.narrowed in
    subst (λ n. IsNarrowed (BreaksFrom net policy n part) c.args.least.now c.loop-branch.least) above
    (done_all net policy below part branches c.in_ok-branch-items.ensures c.args.least.now c.loop-branch.least done)
