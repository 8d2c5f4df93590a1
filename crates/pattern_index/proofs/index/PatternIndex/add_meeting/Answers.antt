use Rattle.std.proofs.Common.{◌≡◌, ◌-◌, ◌<◌, ℕ, Some, length, sym, ◌∙◌, subst, arith}
use Rattle.std.specs.List.{slice_get}
use Rattle.std.proofs.lemmas.Bool.{true≢false}
use Rattle.pattern_index.specs.declared.tree.Entry.{Entry}
use Rattle.pattern_index.specs.declared.tree.Kind.TheVariants.{Own, Hull}
use Rattle.pattern_index.specs.Trees.{IndexValue, IsTree}
use Rattle.pattern_index.proofs.Looking.{Looked, looked_found, looked_by, looked_past, looked_all, at_view}
use Rattle.pattern_index.proofs.index.PatternIndex.add_meeting.Goals as goal

pub loop-left-preserved-in-Continue-1 : goal.loop-left-preserved-in-Continue-1
loop-left-preserved-in-Continue-1 c =
    let own : Entry = c.index.result.now in
    let left = c.loop-left.left in
    let some : 0 < left = omega (arith, c.loop-left-test.true) in
    let inside : left - 1 < length c.args.self.now.entries = omega (arith, c.loop-left.invariant.inside, some) in
    let at : slice_get c.args.self.now.entries (left - 1) ≡ Some own = at_view c.args.self.now _ c.self.view_is (left - 1) own inside c.index.ensures in
    rw c.in_ok-push-in-Own.ensures.items
    (looked_found c.args.self.now.entries c.args.p.now c.args.places.now.items c.loop-left.places.items left some own at c.loop-left.invariant c.in-Own.place c.in-Own.is (sym c.meets.ensures ∙ c.if-meets.true))

pub loop-left-preserved-else-meets : goal.loop-left-preserved-else-meets
loop-left-preserved-else-meets c =
    let own : Entry = c.index.result.now in
    let left = c.loop-left.left in
    let some : 0 < left = omega (arith, c.loop-left-test.true) in
    let inside : left - 1 < length c.args.self.now.entries = omega (arith, c.loop-left.invariant.inside, some) in
    let at : slice_get c.args.self.now.entries (left - 1) ≡ Some own = at_view c.args.self.now _ c.self.view_is (left - 1) own inside c.index.ensures in
    looked_by c.args.self.now.entries c.args.p.now c.args.places.now.items c.loop-left.places.items left some own at c.loop-left.invariant
    (λ place is meeting. true≢false (sym meeting ∙ sym c.meets.ensures ∙ c.if-meets.false))

pub loop-left-smaller-then-not-meets : goal.loop-left-smaller-then-not-meets
loop-left-smaller-then-not-meets c =
    let own : Entry = c.index.result.now in
    let left = c.loop-left.left in
    let some : 0 < left = omega (arith, c.loop-left-test.true) in
    let inside : left - 1 < length c.args.self.now.entries = omega (arith, c.loop-left.invariant.inside, some) in
    let at : slice_get c.args.self.now.entries (left - 1) ≡ Some own = at_view c.args.self.now _ c.self.view_is (left - 1) own inside c.index.ensures in
    let tree : IsTree c.self.inside.bits c.args.self.now.entries = subst (λ (v : IndexValue). IsTree c.self.inside.bits v.entries) c.self.view_is c.self.invariant in
    let behind = tree.behind (left - 1) c.in-Hull.first own at c.in-Hull.is in
    omega (arith, behind, some)

pub loop-left-preserved-then-not-meets : goal.loop-left-preserved-then-not-meets
loop-left-preserved-then-not-meets c =
    let own : Entry = c.index.result.now in
    let left = c.loop-left.left in
    let some : 0 < left = omega (arith, c.loop-left-test.true) in
    let inside : left - 1 < length c.args.self.now.entries = omega (arith, c.loop-left.invariant.inside, some) in
    let at : slice_get c.args.self.now.entries (left - 1) ≡ Some own = at_view c.args.self.now _ c.self.view_is (left - 1) own inside c.index.ensures in
    let tree : IsTree c.self.inside.bits c.args.self.now.entries = subst (λ (v : IndexValue). IsTree c.self.inside.bits v.entries) c.self.view_is c.self.invariant in
    looked_past c.args.self.now.entries c.args.p.now c.args.places.now.items c.loop-left.places.items left some own at c.loop-left.invariant
    c.self.inside.bits c.in-Hull.first tree c.in-Hull.is (sym c.meets-in-Hull.ensures ∙ c.if-not-meets.true)

pub loop-left-preserved : goal.loop-left-preserved
loop-left-preserved c =
    let own : Entry = c.index.result.now in
    let left = c.loop-left.left in
    let some : 0 < left = omega (arith, c.loop-left-test.true) in
    let inside : left - 1 < length c.args.self.now.entries = omega (arith, c.loop-left.invariant.inside, some) in
    let at : slice_get c.args.self.now.entries (left - 1) ≡ Some own = at_view c.args.self.now _ c.self.view_is (left - 1) own inside c.index.ensures in
    looked_by c.args.self.now.entries c.args.p.now c.args.places.now.items c.loop-left.places.items left some own at c.loop-left.invariant
    (λ place is meeting. no_own c.in-Hull.first place (sym c.in-Hull.is ∙ is))
  where
    no_own : (first place : ℕ) → Hull first ≡ Own place → ⊥
    no_own first place same = absurd (cc)

pub returns : goal.returns
returns c =
    looked_all c.args.self.now c.args.p.now c.args.places.now.items c.loop-left.places.items
    (subst (λ n. Looked c.args.self.now.entries c.args.p.now c.args.places.now.items c.loop-left.places.items n) (omega (arith, c.loop-left-test.false)) c.loop-left.invariant)
