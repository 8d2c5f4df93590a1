use Rattle.std.proofs.Common.{◌≡◌, ◌∙◌, ◌≤◌, IfSome, length, sym, ap, subst, arith}
use Rattle.std.proofs.lemmas.Bool.{eqb-true, eqb-false}
use Rattle.std.proofs.lemmas.Result.{err_from_is_err_and}
use Rattle.list_laws.proofs.Places.{empty}
use Rattle.box_step.specs.declared.overlaps.Overlaps.{Overlaps}
use Rattle.box_step.specs.Overlaps.{pair_count, IsOverlaps}
use Rattle.class_tree.proofs.Faults.{handed_on}
use Rattle.frontier_waves.specs.Starts.{starts_of}
use Rattle.frontier_waves.specs.Waves.{HasSearched}
use Rattle.frontier_waves.proofs.WaveEnds.{begun, ended_early, ended_at_limit}
use Rattle.frontier_waves.proofs.search.grow_out.Goals as goal

pub loop-depth-init : goal.loop-depth-init
loop-depth-init g c =
    let e = c.begin-frontier.ensures in
    let starts = c.args.starts.items in (
      subst (λ v. HasSearched c.args.net.now c.args.hops c.args.twins.now (starts_of starts) 0 c.begin-frontier.result.found v.items) (sym e.wave)
          (begun c.args.net.now c.args.hops c.args.twins.now starts c.begin-frontier.result.found c.requires.starts e.entries e.classes e.touched),
      omega (arith, ap length e.entries),
      omega arith,
    )

pub returns-then-is_empty-clause-searched : goal.returns-then-is_empty-clause-searched
returns-then-is_empty-clause-searched g c =
    let frontier = c.loop-depth.frontier in
    let none : frontier.wave.len ≡ 0 = eqb-true frontier.wave.len 0 (sym c.if-is_empty.ensures) in
    (ended_early c.args.net.now c.args.hops c.args.twins.now (starts_of c.args.starts.items) c.loop-depth.depth frontier.found frontier.wave.items c.loop-depth.invariant.2
    (empty frontier.wave.items (omega (arith, none, frontier.wave.ok.0))) c.loop-depth.invariant.0).0

pub returns-then-is_empty-clause-touched : goal.returns-then-is_empty-clause-touched
returns-then-is_empty-clause-touched g c =
    let frontier = c.loop-depth.frontier in
    let none : frontier.wave.len ≡ 0 = eqb-true frontier.wave.len 0 (sym c.if-is_empty.ensures) in
    (ended_early c.args.net.now c.args.hops c.args.twins.now (starts_of c.args.starts.items) c.loop-depth.depth frontier.found frontier.wave.items c.loop-depth.invariant.2
    (empty frontier.wave.items (omega (arith, none, frontier.wave.ok.0))) c.loop-depth.invariant.0).1

pub returns-then-is_empty-clause-within : goal.returns-then-is_empty-clause-within
returns-then-is_empty-clause-within g c = c.loop-depth.invariant.1

pub one_wave-requires-clause-over : goal.one_wave-requires-clause-over
one_wave-requires-clause-over g c κs lives over there =
    let P : Overlaps → Type 0 = λ o. IsOverlaps c.args.net.now o × (pair_count c.args.net.now ≤ 16777216) in
    let is : P over = subst (λ o. IfSome o P) (sym c.as_ref-over.ensures.value ∙ there) c.in_ok-kept.ensures.some in
    is.0

pub one_wave-requires-clause-some : goal.one_wave-requires-clause-some
one_wave-requires-clause-some g c =
    let frontier = c.loop-depth.frontier in
    let some : frontier.wave.len ≡ 0 → ⊥ = eqb-false frontier.wave.len 0 (sym c.if-is_empty.ensures) in
    omega (arith, some, frontier.wave.ok.0)

pub one_wave-requires-clause-belong : goal.one_wave-requires-clause-belong
one_wave-requires-clause-belong g c κs lives = c.loop-depth.invariant.0.wave.belong

pub one_wave-requires-clause-within : goal.one_wave-requires-clause-within
one_wave-requires-clause-within g c κs lives = c.loop-depth.invariant.1

pub returns-in_err-frontier-clause-full : goal.returns-in_err-frontier-clause-full
returns-in_err-frontier-clause-full g c most h =
    let p = err_from_is_err_and c.from_residual-in_err-frontier.result c.from_residual-in_err-frontier.ensures.1 in
    let full = c.in_err-frontier.ensures.full most (handed_on c.from_residual-in_err-frontier.result c.in_err-frontier.field-0.0 p.0 _ p.1 p.2 h) in
    (full.0, full.1 (starts_of c.args.starts.items) c.loop-depth.depth (omega (arith, c.stride_of-stride.ensures.1)) c.loop-depth.invariant.0)

pub loop-depth-preserved : goal.loop-depth-preserved
loop-depth-preserved g c =
    (c.in_ok-frontier.ensures.further (starts_of c.args.starts.items) c.loop-depth.depth (omega (arith, c.stride_of-stride.ensures.1)) c.loop-depth.invariant.0, c.in_ok-frontier.ensures.within, omega (arith, c.stride_of-stride.ensures.1))

pub returns-clause-searched : goal.returns-clause-searched
returns-clause-searched g c =
    let frontier = c.loop-depth.frontier in
    let all : c.loop-depth.depth ≡ c.args.hops = omega (arith, c.loop-depth-test.false, c.loop-depth.invariant.2) in
    (ended_at_limit c.args.net.now c.args.hops c.args.twins.now (starts_of c.args.starts.items) c.loop-depth.depth frontier.found frontier.wave.items all c.loop-depth.invariant.0).0

pub returns-clause-touched : goal.returns-clause-touched
returns-clause-touched g c =
    let frontier = c.loop-depth.frontier in
    let all : c.loop-depth.depth ≡ c.args.hops = omega (arith, c.loop-depth-test.false, c.loop-depth.invariant.2) in
    (ended_at_limit c.args.net.now c.args.hops c.args.twins.now (starts_of c.args.starts.items) c.loop-depth.depth frontier.found frontier.wave.items all c.loop-depth.invariant.0).1

pub returns-clause-within : goal.returns-clause-within
returns-clause-within g c = c.loop-depth.invariant.1
