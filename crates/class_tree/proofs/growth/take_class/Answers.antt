use Rattle.std.proofs.Common.{◌≡◌, ◌+◌, List, [], length, sym, ap, ◌∙◌, subst, arith}
use Rattle.std.proofs.lemmas.Result.{err_from_is_err_and}
use Rattle.list_laws.proofs.Places.{empty}
use Rattle.box_step.specs.declared.branches.Branch.{Branch}
use Rattle.box_step.specs.Branches.{IsSent}
use Rattle.class_tree.proofs.Faults.{handed_on}
use Rattle.class_tree.proofs.Expanding.{some_member, as_wide}
use Rattle.class_tree.proofs.Taking.{IsMidway, midway_start, midway_skip, midway_there, midway_more, midway_full, midway_end}
use Rattle.class_tree.proofs.growth.take_class.Goals as goal

pub loop-branch-init : goal.loop-branch-init
loop-branch-init c =
    let gives = c.into_iter-branch-iterator.ensures.into_iter_gives in (
      midway_start c.args.net.now c.args.hops c.args.class.now c.args.limit c.into_iter-branch-iterator.result.rest.items c.args.grown.now,
      gives.1 ∙ (c.in_ok-branches.branches.ok.0 ∙ sym (ap length gives.0)),
    )

pub follow-requires-clause-member : goal.follow-requires-clause-member
follow-requires-clause-member c =
    let all : List Branch = c.into_iter-branch-iterator.result.rest.items in
    let split : IsSent c.args.net.now c.args.class.now.port c.args.class.now.space c.args.class.now.rewrite all =
    subst (λ l. IsSent c.args.net.now c.args.class.now.port c.args.class.now.space c.args.class.now.rewrite l) (sym c.into_iter-branch-iterator.ensures.into_iter_gives.0) c.in_ok-branches.ensures in
    let midway = subst (λ l. IsMidway c.args.net.now c.args.hops c.args.class.now c.args.limit all c.loop-branch.yielded l c.args.grown.now c.loop-branch.grown) c.in-Some.ensures.steps.0 c.loop-branch.invariant.0 in
    some_member c.args.net.now c.bits-2.ensures.well_formed c.args.class.now c.requires.belongs all split c.in-Some.branch
    (midway_there c.args.net.now c.args.hops c.args.class.now c.args.limit all c.loop-branch.yielded c.next.new.self.rest.items c.in-Some.branch c.args.grown.now c.loop-branch.grown midway)

pub follow-requires-clause-width : goal.follow-requires-clause-width
follow-requires-clause-width c =
    let all : List Branch = c.into_iter-branch-iterator.result.rest.items in
    let split : IsSent c.args.net.now c.args.class.now.port c.args.class.now.space c.args.class.now.rewrite all =
    subst (λ l. IsSent c.args.net.now c.args.class.now.port c.args.class.now.space c.args.class.now.rewrite l) (sym c.into_iter-branch-iterator.ensures.into_iter_gives.0) c.in_ok-branches.ensures in
    let midway = subst (λ l. IsMidway c.args.net.now c.args.hops c.args.class.now c.args.limit all c.loop-branch.yielded l c.args.grown.now c.loop-branch.grown) c.in-Some.ensures.steps.0 c.loop-branch.invariant.0 in
    as_wide c.args.net.now c.bits-2.ensures.well_formed c.args.class.now c.requires.belongs all split c.in-Some.branch
    (midway_there c.args.net.now c.args.hops c.args.class.now c.args.limit all c.loop-branch.yielded c.next.new.self.rest.items c.in-Some.branch c.args.grown.now c.loop-branch.grown midway)

pub loop-branch-preserved-in-Continue-branch-3 : goal.loop-branch-preserved-in-Continue-branch-3
loop-branch-preserved-in-Continue-branch-3 c =
    let all : List Branch = c.into_iter-branch-iterator.result.rest.items in
    let split : IsSent c.args.net.now c.args.class.now.port c.args.class.now.space c.args.class.now.rewrite all =
    subst (λ l. IsSent c.args.net.now c.args.class.now.port c.args.class.now.space c.args.class.now.rewrite l) (sym c.into_iter-branch-iterator.ensures.into_iter_gives.0) c.in_ok-branches.ensures in
    let gave = c.in-Some.ensures.steps in
    let midway = subst (λ l. IsMidway c.args.net.now c.args.hops c.args.class.now c.args.limit all c.loop-branch.yielded l c.args.grown.now c.loop-branch.grown) gave.0 c.loop-branch.invariant.0 in
    let size : length c.loop-branch.branch-iterator.rest.items ≡ length c.next.new.self.rest.items + 1 = ap length gave.0 ∙ omega arith in
    let e = c.in_ok-take_step.ensures in (
      midway_more c.args.net.now c.bits-2.ensures.well_formed c.args.class.now c.requires.belongs all split c.args.hops c.requires.short c.args.limit
          c.loop-branch.yielded c.next.new.self.rest.items c.in-Some.branch c.in_ok-step.step c.args.grown.now c.loop-branch.grown midway
          c.in-Some-out_port.port (sym c.out_port.ensures ∙ c.in-Some-out_port.is) c.in_ok-step.ensures.rule c.in_ok-step.ensures.behind
          c.take_step.new.grown e.found e.rest e.made e.touched e.within,
      omega (arith, gave.1, c.loop-branch.invariant.1, size),
    )

pub loop-branch-preserved : goal.loop-branch-preserved
loop-branch-preserved c =
    let all : List Branch = c.into_iter-branch-iterator.result.rest.items in
    let gave = c.in-Some.ensures.steps in
    let midway = subst (λ l. IsMidway c.args.net.now c.args.hops c.args.class.now c.args.limit all c.loop-branch.yielded l c.args.grown.now c.loop-branch.grown) gave.0 c.loop-branch.invariant.0 in
    let size : length c.loop-branch.branch-iterator.rest.items ≡ length c.next.new.self.rest.items + 1 = ap length gave.0 ∙ omega arith in (
      midway_skip c.args.net.now c.args.hops c.args.class.now c.args.limit all c.loop-branch.yielded c.next.new.self.rest.items c.in-Some.branch
          c.args.grown.now c.loop-branch.grown midway (sym c.out_port.ensures ∙ c.in_default.is),
      omega (arith, gave.1, c.loop-branch.invariant.1, size),
    )

pub returns-in_err-take_step-clause-full : goal.returns-in_err-take_step-clause-full
returns-in_err-take_step-clause-full c most h =
    let all : List Branch = c.into_iter-branch-iterator.result.rest.items in
    let split : IsSent c.args.net.now c.args.class.now.port c.args.class.now.space c.args.class.now.rewrite all =
    subst (λ l. IsSent c.args.net.now c.args.class.now.port c.args.class.now.space c.args.class.now.rewrite l) (sym c.into_iter-branch-iterator.ensures.into_iter_gives.0) c.in_ok-branches.ensures in
    let midway = subst (λ l. IsMidway c.args.net.now c.args.hops c.args.class.now c.args.limit all c.loop-branch.yielded l c.args.grown.now c.loop-branch.grown) c.in-Some.ensures.steps.0 c.loop-branch.invariant.0 in
    let p = err_from_is_err_and c.from_residual-in_err-take_step.result c.from_residual-in_err-take_step.ensures.1 in
    let full = c.in_err-take_step.ensures.full most (handed_on c.from_residual-in_err-take_step.result c.in_err-take_step.field-0.0 p.0 _ p.1 p.2 h) in (
      full.0,
      midway_full c.args.net.now c.bits-2.ensures.well_formed c.args.class.now c.requires.belongs all split c.args.hops c.requires.short c.args.limit
          c.loop-branch.yielded c.next.new.self.rest.items c.in-Some.branch c.in_ok-step.step c.args.grown.now c.loop-branch.grown midway
          c.in-Some-out_port.port (sym c.out_port.ensures ∙ c.in-Some-out_port.is) c.in_ok-step.ensures.rule c.in_ok-step.ensures.behind
          full.2.0 full.1 full.2.1,
    )

pub returns-clause-touched : goal.returns-clause-touched
returns-clause-touched c = c.loop-branch.invariant.0.touched

pub returns-clause-within : goal.returns-clause-within
returns-clause-within c = c.loop-branch.invariant.0.within

pub returns-clause-taken : goal.returns-clause-taken
returns-clause-taken c =
    let all : List Branch = c.into_iter-branch-iterator.result.rest.items in
    let split : IsSent c.args.net.now c.args.class.now.port c.args.class.now.space c.args.class.now.rewrite all =
    subst (λ l. IsSent c.args.net.now c.args.class.now.port c.args.class.now.space c.args.class.now.rewrite l) (sym c.into_iter-branch-iterator.ensures.into_iter_gives.0) c.in_ok-branches.ensures in
    let none : c.loop-branch.branch-iterator.rest.items ≡ [] = empty c.loop-branch.branch-iterator.rest.items (sym c.loop-branch.invariant.1 ∙ c.in-None.ensures.steps.0) in
    midway_end c.args.net.now c.bits-2.ensures.well_formed c.args.class.now c.requires.belongs all split c.args.hops c.requires.short c.args.limit
    c.loop-branch.yielded c.args.grown.now c.loop-branch.grown
    (subst (λ l. IsMidway c.args.net.now c.args.hops c.args.class.now c.args.limit all c.loop-branch.yielded l c.args.grown.now c.loop-branch.grown) none c.loop-branch.invariant.0)
