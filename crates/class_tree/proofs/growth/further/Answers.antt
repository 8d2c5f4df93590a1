use Rattle.std.proofs.Common.{◌≡◌, ℕ, ◌<◌, ◌≤◌, ◌+◌, length, take, get_or, refl, sym, ap, subst, arith}
use Rattle.std.proofs.lemmas.Result.{err_from_is_err_and}
use Rattle.class_tree.specs.declared.class.Class.{Class}
use Rattle.class_tree.specs.declared.growth.Grown.{Grown}
use Rattle.class_tree.specs.Growth.{IsGrown}
use Rattle.class_tree.specs.Among.{HasJoined}
use Rattle.class_tree.proofs.Faults.{handed_on}
use Rattle.class_tree.proofs.Levels.{IsBetween, IsBoxOf, between_start, between_touching, between_next, between_more, between_end, joined_start, joined_more}
use Rattle.class_tree.proofs.growth.further.Goals as goal

pub loop-class-init : goal.loop-class-init
loop-class-init c = (
  λ base depth is. between_start c.args.net.now c.args.hops base depth c.args.grown _ is refl c.in_ok-with_capacity.ensures.items refl,
  joined_start c.args.net.now c.args.grown.rest.items c.args.grown.touched.items,
  λ h. h,
)

pub returns-in_err-take_class-clause-full : goal.returns-in_err-take_class-clause-full
returns-in_err-take_class-clause-full c most h =
    let items : c.deref-class-items.result.now ≡ c.args.grown.rest.items = c.deref-class-items.ensures.value in
    let own : Class = c.class-item.result in
    let inside : c.loop-class.class-index < length c.args.grown.rest.items = omega (arith, c.loop-class-test.true, ap length items) in
    let at : own ≡ get_or c.args.grown.rest.items c.loop-class.class-index own = subst (λ l. own ≡ get_or l c.loop-class.class-index own) items c.class-item.is in
    let next : Grown = record { found = c.loop-class.next.found; rest = c.loop-class.next.rest; made = c.loop-class.next.made; touched = c.touch.new.touched } in
    let touched : (base : Class) (depth : ℕ) → IsGrown c.args.net.now c.args.hops base depth c.args.grown
    → IsBetween c.args.net.now c.args.hops base depth c.args.grown.rest.items c.loop-class.class-index next =
    λ base depth is.
    between_touching c.args.net.now c.args.hops base depth c.args.grown.rest.items c.loop-class.class-index c.loop-class.next next refl refl refl (c.loop-class.invariant.0 base depth is) in
    let p = err_from_is_err_and c.from_residual-in_err-take_class.result c.from_residual-in_err-take_class.ensures.1 in
    let full = c.in_err-take_class.ensures.full most (handed_on c.from_residual-in_err-take_class.result c.in_err-take_class.field-0.0 p.0 _ p.1 p.2 h) in (
      full.0,
      λ base depth is.
          let between = touched base depth is in
          full.1 base depth between.lists (between_next c.args.net.now c.args.hops base depth c.args.grown c.loop-class.class-index own next is inside at between) between.among,
    )

pub loop-class-preserved : goal.loop-class-preserved
loop-class-preserved c =
    let items : c.deref-class-items.result.now ≡ c.args.grown.rest.items = c.deref-class-items.ensures.value in
    let own : Class = c.class-item.result in
    let inside : c.loop-class.class-index < length c.args.grown.rest.items = omega (arith, c.loop-class-test.true, ap length items) in
    let at : own ≡ get_or c.args.grown.rest.items c.loop-class.class-index own = subst (λ l. own ≡ get_or l c.loop-class.class-index own) items c.class-item.is in
    let next : Grown = record { found = c.loop-class.next.found; rest = c.loop-class.next.rest; made = c.loop-class.next.made; touched = c.touch.new.touched } in
    let joined = joined_more c.args.net.now c.args.grown.rest.items c.loop-class.class-index own c.args.grown.touched.items c.loop-class.next.touched.items c.touch.new.touched.items
    inside at c.loop-class.invariant.1 c.in_ok-touch.ensures in
    let taken = c.in_ok-take_class.ensures in (
      λ base depth is.
          let between = between_touching c.args.net.now c.args.hops base depth c.args.grown.rest.items c.loop-class.class-index c.loop-class.next next refl refl refl
          (c.loop-class.invariant.0 base depth is) in
          between_more c.args.net.now c.args.hops base depth c.args.grown c.loop-class.class-index own next c.take_class.new.grown is inside at between
          (taken.taken base depth between.lists (between_next c.args.net.now c.args.hops base depth c.args.grown c.loop-class.class-index own next is inside at between) between.among),
      subst (λ l. HasJoined (IsBoxOf c.args.net.now (take (c.loop-class.class-index + 1) c.args.grown.rest.items)) c.args.grown.touched.items l) (sym taken.touched) joined,
      λ h. taken.within (c.loop-class.invariant.2 h),
    )

pub returns-clause-grown : goal.returns-clause-grown
returns-clause-grown c base depth is =
    let items : c.deref-class-items.result.now ≡ c.args.grown.rest.items = c.deref-class-items.ensures.value in
    let end : length c.args.grown.rest.items ≤ c.loop-class.class-index = omega (arith, c.loop-class-test.false, ap length items) in
    between_end c.args.net.now c.args.hops base depth c.args.grown c.loop-class.class-index c.loop-class.next is end (c.loop-class.invariant.0 base depth is) c.loop-class.invariant.1

pub returns-clause-within : goal.returns-clause-within
returns-clause-within c = c.loop-class.invariant.2
