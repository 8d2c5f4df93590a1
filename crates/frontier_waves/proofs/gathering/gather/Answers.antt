use Rattle.std.proofs.Common.{[], sym, subst, arith}
use Rattle.std.proofs.lemmas.Result.{err_from_is_err_and}
use Rattle.class_tree.proofs.Faults.{handed_on}
use Rattle.frontier_waves.proofs.ReadyPlaces.{ready_all, ready_next, gather_more, gather_full, gather_end}
use Rattle.frontier_waves.proofs.WaveSteps.{IsBetween, between_start}
use Rattle.frontier_waves.proofs.gathering.gather.Goals as goal

pub loop-at-init : goal.loop-at-init
loop-at-init c = (
  λ terminals depth few is.
      subst (λ cs. IsBetween c.args.net.now c.args.hops c.args.twins.now terminals depth c.args.stride [] c.args.found cs) (sym c.new.ensures.items)
      (between_start c.args.net.now c.args.hops c.args.twins.now terminals depth c.args.stride c.args.found c.args.wave.now is),
  c.requires.within,
  ready_all c.args.net.now c.args.hops c.args.stride c.args.wave.now c.args.ready.items c.requires.ready,
)

pub take_class-requires-clause-within : goal.take_class-requires-clause-within
take_class-requires-clause-within c = c.loop-at.invariant.1

pub returns-in_err-take_class-clause-full : goal.returns-in_err-take_class-clause-full
returns-in_err-take_class-clause-full c most h =
    let p = err_from_is_err_and c.from_residual.result c.from_residual.ensures.1 in
    let full = c.in_err-take_class.ensures.full most (handed_on c.from_residual.result c.in_err-take_class.field-0.0 p.0 _ p.1 p.2 h) in
    let next = c.loop-at.next in (
      full.0,
      λ terminals depth few is.
          gather_full c.args.net.now c.args.hops c.args.twins.now terminals depth c.args.stride c.args.limit c.args.wave.now c.loop-at.at c.index-wave-at.result next.found next.wave.items is.wave
          c.requires.stride (omega arith) c.index-wave-at.is (c.loop-at.invariant.0 terminals depth few is) full.1,
    )

pub loop-at-preserved : goal.loop-at-preserved
loop-at-preserved c =
    let taken = c.in_ok-take_class.ensures in (
      λ terminals depth few is.
          gather_more c.args.net.now c.args.hops c.args.twins.now terminals depth c.args.stride c.args.wave.now c.loop-at.at c.index-wave-at.result c.loop-at.next c.take_class.new.next is.wave
          c.requires.stride (omega arith) c.index-wave-at.is (c.loop-at.invariant.0 terminals depth few is) taken.taken,
      taken.within,
      ready_next c.args.net.now c.args.hops c.args.stride c.args.wave.now c.loop-at.at c.loop-at.ready.items _ c.loop-at.invariant.2,
    )

pub returns-clause-further : goal.returns-clause-further
returns-clause-further c terminals depth few is =
    gather_end c.args.net.now c.args.hops c.args.twins.now terminals depth c.args.stride c.args.wave.now c.loop-at.at c.loop-at.next.found c.loop-at.next.wave.items is.wave few c.requires.stride (omega arith)
    (c.loop-at.invariant.0 terminals depth few is)

pub returns-clause-within : goal.returns-clause-within
returns-clause-within c = c.loop-at.invariant.1
