use Rattle.std.proofs.Common.{◌≡◌, ◌∙◌, ◌-◌, ◌<◌, ◌≤◌, ap, sym, subst, ℕ, false, length, get_or, bit_or, refl, arith}
use Rattle.std.specs.Prelude.{slice_set}
use Rattle.std.proofs.lemmas.List.{length-set}
use Rattle.network_model.specs.Rewrites.{Set, Rewrite, rewritten, item_after, composed}
use Rattle.ternary_bits.specs.Items.{item_of}
use Rattle.ternary_bits.specs.Words.{rewrite_of}
use Rattle.ternary_bits.proofs.Walking.{Walks, walk_place}
use Rattle.ternary_bits.proofs.Rewriting.{length-rewrite_of, zeros, new_word}
use Rattle.ternary_bits.proofs.Composing.{HasItem, same_rewrite, unmoved_ok, then_start, then_step, then_end, rewritten-composed}
use Rattle.ternary_bits.proofs.rewrite.Rewrite.then.Goals as goal

pub invariant_of-both : goal.invariant_of-both
invariant_of-both c =
    let r = c.self.inside in
    let t = c.later.inside in
    let width : length c.args.self.now ≡ r.bits = length-rewrite_of r.bits r.set r.value r.sources c.args.self.now c.self.view_is in
    let later =
    same_rewrite r.bits r.set r.value t.bits t.set t.value t.moved r.sources t.sources c.args.self.now c.args.later.now c.self.view_is c.later.invariant c.later.view_is c.requires
    in
    unmoved_ok r.bits r.set r.value r.moved t.set t.value t.moved r.sources t.sources c.self.invariant later.0

pub loop-place-init : goal.loop-place-init
loop-place-init c =
    let r = c.self.inside in
    let t = c.later.inside in
    let width : length c.args.self.now ≡ r.bits = length-rewrite_of r.bits r.set r.value r.sources c.args.self.now c.self.view_is in
    let later =
    same_rewrite r.bits r.set r.value t.bits t.set t.value t.moved r.sources t.sources c.args.self.now c.args.later.now c.self.view_is c.later.invariant c.later.view_is c.requires
    in
    let both : Rewrite = rewrite_of r.bits (bit_or r.set t.set) (new_word r.value t.set t.value) (zeros 128) in
    let start : Walks (bit_or r.moved t.moved) (bit_or r.moved t.moved) r.bits (HasItem r.bits c.args.self.now c.args.later.now both) =
    then_start r.bits r.set r.value r.moved t.set t.value t.moved r.sources t.sources c.args.self.now c.args.later.now c.self.invariant later.0 c.self.view_is later.1
    in
    record {
      width = length-rewrite_of r.bits (bit_or r.set t.set) (new_word r.value t.set t.value) (zeros 128) both refl ∙ sym width;
      items = subst (λ (n : ℕ). Walks (bit_or r.moved t.moved) (bit_or r.moved t.moved) n (HasItem n c.args.self.now c.args.later.now both)) (sym width) start;
    }

pub item_at-requires : goal.item_at-requires
item_at-requires c =
    let r = c.self.inside in
    let t = c.later.inside in
    let width : length c.args.self.now ≡ r.bits = length-rewrite_of r.bits r.set r.value r.sources c.args.self.now c.self.view_is in
    let later =
    same_rewrite r.bits r.set r.value t.bits t.set t.value t.moved r.sources t.sources c.args.self.now c.args.later.now c.self.view_is c.later.invariant c.later.view_is c.requires
    in
    let high = c.self.invariant.high in
    let at =
    walk_place (bit_or r.moved t.moved) c.loop-place.moved (length c.args.self.now) c.in-Some.place c.in-Some.others (HasItem (length c.args.self.now) c.args.self.now c.args.later.now c.loop-place.both)
    c.loop-place.invariant.items c.in-Some.ensures.some
    in
    let inside : c.in-Some.place < length c.args.self.now = at.0 in
    let built = c.loop-place.invariant.width in
    let widths = c.requires in
    omega arith

pub set_item-requires-clause-place : goal.set_item-requires-clause-place
set_item-requires-clause-place c =
    let r = c.self.inside in
    let t = c.later.inside in
    let width : length c.args.self.now ≡ r.bits = length-rewrite_of r.bits r.set r.value r.sources c.args.self.now c.self.view_is in
    let later =
    same_rewrite r.bits r.set r.value t.bits t.set t.value t.moved r.sources t.sources c.args.self.now c.args.later.now c.self.view_is c.later.invariant c.later.view_is c.requires
    in
    let high = c.self.invariant.high in
    let at =
    walk_place (bit_or r.moved t.moved) c.loop-place.moved (length c.args.self.now) c.in-Some.place c.in-Some.others (HasItem (length c.args.self.now) c.args.self.now c.args.later.now c.loop-place.both)
    c.loop-place.invariant.items c.in-Some.ensures.some
    in
    let inside : c.in-Some.place < length c.args.self.now = at.0 in
    let built = c.loop-place.invariant.width in
    let widths = c.requires in
    omega arith

pub loop-place-preserved : goal.loop-place-preserved
loop-place-preserved c =
    let r = c.self.inside in
    let t = c.later.inside in
    let width : length c.args.self.now ≡ r.bits = length-rewrite_of r.bits r.set r.value r.sources c.args.self.now c.self.view_is in
    let later =
    same_rewrite r.bits r.set r.value t.bits t.set t.value t.moved r.sources t.sources c.args.self.now c.args.later.now c.self.view_is c.later.invariant c.later.view_is c.requires
    in
    let high = c.self.invariant.high in
    let at =
    walk_place (bit_or r.moved t.moved) c.loop-place.moved (length c.args.self.now) c.in-Some.place c.in-Some.others (HasItem (length c.args.self.now) c.args.self.now c.args.later.now c.loop-place.both)
    c.loop-place.invariant.items c.in-Some.ensures.some
    in
    let inside : c.in-Some.place < length c.args.self.now = at.0 in
    let built = c.loop-place.invariant.width in
    let widths = c.requires in
    let narrow : length c.args.self.now ≤ 128 = omega arith in
    let it : item_of c.before_item.result ≡ item_after c.args.self.now (get_or c.args.later.now (length c.args.self.now - 1 - c.in-Some.place) (Set false)) =
    c.before_item.ensures.item ∙ ap (item_after c.args.self.now) (c.item_at.ensures.item ∙ ap (λ n. get_or c.args.later.now (n - 1 - c.in-Some.place) (Set false)) (sym widths))
    in
    let step =
    then_step (length c.args.self.now) (bit_or r.moved t.moved) c.loop-place.moved c.in-Some.place c.in-Some.others c.args.self.now c.args.later.now c.loop-place.both (item_of c.before_item.result)
    narrow built c.loop-place.invariant.items c.in-Some.ensures.some it
    in
    let new : c.set_item.new.self ≡ slice_set c.loop-place.both (length c.args.self.now - 1 - c.in-Some.place) (item_of c.before_item.result) =
    c.set_item.ensures.item ∙ ap (λ n. slice_set c.loop-place.both (n - 1 - c.in-Some.place) (item_of c.before_item.result)) built
    in
    record {
      width = ap length new ∙ length-set c.loop-place.both (length c.args.self.now - 1 - c.in-Some.place) (item_of c.before_item.result) ∙ built;
      items = subst (λ (both : Rewrite). Walks (bit_or r.moved t.moved) c.in-Some.others (length c.args.self.now) (HasItem (length c.args.self.now) c.args.self.now c.args.later.now both)) (sym new) step;
    }

pub returns : goal.returns
returns c =
    let value : c.loop-place.both ≡ composed c.args.self.now c.args.later.now =
    then_end (length c.args.self.now) (bit_or c.self.inside.moved c.later.inside.moved) c.loop-place.moved c.args.self.now c.args.later.now c.loop-place.both c.loop-place.invariant.width
    (sym c.requires) c.loop-place.invariant.items c.in_default.ensures.none
    in
    record {
      value = value;
      applies = λ h width. ap (λ k. rewritten k h) value ∙ rewritten-composed c.args.self.now c.args.later.now h;
    }
