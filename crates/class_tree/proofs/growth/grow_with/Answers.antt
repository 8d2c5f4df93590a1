use Rattle.std.proofs.Common.{◌≡◌, ◌≤◌, ◌+◌, sym, subst, arith}
use Rattle.std.proofs.lemmas.Bool.{eqb-true}
use Rattle.std.proofs.lemmas.Result.{err_from_is_err_and}
use Rattle.list_laws.proofs.Places.{empty}
use Rattle.class_tree.specs.Growth.{IsGrown}
use Rattle.class_tree.proofs.Faults.{handed_on}
use Rattle.class_tree.proofs.GrownOut.{grown_out, more_deeper}
use Rattle.class_tree.proofs.growth.grow_with.Goals as goal

pub returns-then-is_empty-clause-grown : goal.returns-then-is_empty-clause-grown
returns-then-is_empty-clause-grown c =
    let none : c.loop.grown.rest.len ≡ 0 = eqb-true c.loop.grown.rest.len 0 (sym c.if-is_empty.ensures) in
    grown_out c.args.net.now c.args.hops c.args.class.now c.loop.counter c.args.depth c.loop.grown c.loop.invariant.0
    (empty c.loop.grown.rest.items (omega (arith, none, c.loop.grown.rest.ok.0))) (omega arith)

pub further-requires-clause-belong : goal.further-requires-clause-belong
further-requires-clause-belong c = c.loop.invariant.0.rest.belong

pub further-requires-clause-short : goal.further-requires-clause-short
further-requires-clause-short c = c.loop.invariant.0.rest.short

pub returns-in_err-grown-2-clause-full : goal.returns-in_err-grown-2-clause-full
returns-in_err-grown-2-clause-full c most h =
    let p = err_from_is_err_and c.from_residual-in_err-grown-2.result c.from_residual-in_err-grown-2.ensures.1 in
    let full = c.in_err-grown-2.ensures.full most (handed_on c.from_residual-in_err-grown-2.result c.in_err-grown-2.field-0.0 p.0 _ p.1 p.2 h) in
    let deep : c.loop.counter + 1 ≤ c.args.depth = omega arith in
    (full.0, more_deeper c.args.net.now c.args.hops c.args.class.now (c.loop.counter + 1) c.args.depth c.args.limit deep (full.1 c.args.class.now c.loop.counter c.loop.invariant.0))

pub loop-preserved : goal.loop-preserved
loop-preserved c =
    (c.in_ok-grown-2.ensures.grown c.args.class.now c.loop.counter c.loop.invariant.0, c.in_ok-grown-2.ensures.within c.loop.invariant.1)

pub returns-clause-grown : goal.returns-clause-grown
returns-clause-grown c =
    let all : c.loop.counter ≡ c.args.depth = omega (arith, c.loop.auto.counter-end, c.loop-test.false) in
    subst (λ n. IsGrown c.args.net.now c.args.hops c.args.class.now n c.loop.grown) all c.loop.invariant.0
