use Rattle.std.proofs.Common.{◌≡◌, ◌∙◌, sym, ◌<◌, ◌^◌, length}
use Rattle.ternary_bits.proofs.Rewriting.{HasBit, apply_start, apply_step, apply_end, length-rewrite_of}
use Rattle.ternary_bits.proofs.Walking.{walk_place}
use Rattle.ternary_bits.proofs.rewrite.Rewrite.apply.Goals as goal

pub loop-place-init : goal.loop-place-init
loop-place-init c =
    let r = c.self.inside in
    let width : length c.args.header.now ≡ r.bits = sym c.requires ∙ length-rewrite_of r.bits r.set r.value r.sources c.args.self.now c.self.view_is in
    let number : c.number-old.result < 2 ^ r.bits = rw (← width) c.number-old.ensures.fits in
    let start = apply_start r.bits r.set r.value r.moved c.number-old.result r.sources c.args.header.now c.self.invariant width c.number-old.ensures.number number in
    record { bits = start.0; fits = start.1 }

pub loop-place-preserved : goal.loop-place-preserved
loop-place-preserved c =
    let r = c.self.inside in
    let width : length c.args.header.now ≡ r.bits = sym c.requires ∙ length-rewrite_of r.bits r.set r.value r.sources c.args.self.now c.self.view_is in
    let at = walk_place r.moved c.loop-place.moved r.bits c.in-Some.place c.in-Some.others (HasBit r.bits r.set r.value r.sources c.args.header.now c.loop-place.number) c.loop-place.invariant.bits c.in-Some.ensures.some in
    record {
      bits =
          apply_step r.bits r.set r.value r.moved c.number-old.result c.loop-place.moved c.in-Some.place c.in-Some.others c.loop-place.number c.with_bit-number.result r.sources
          c.args.header.now c.self.invariant width c.number-old.ensures.number c.loop-place.invariant.bits c.in-Some.ensures.some c.with_bit-number.ensures.others
          (c.with_bit-number.ensures.here ∙ c.has_one.ensures);
      fits = c.with_bit-number.ensures.fits r.bits c.self.invariant.high at.0 c.loop-place.invariant.fits;
    }

pub returns : goal.returns
returns c =
    let r = c.self.inside in
    apply_end r.bits r.set r.value r.moved c.loop-place.moved c.loop-place.number r.sources c.args.self.now c.args.header.now c.of_number.result c.self.view_is
    c.loop-place.invariant.bits c.in_default.ensures.none c.of_number.ensures.width c.of_number.ensures.number
