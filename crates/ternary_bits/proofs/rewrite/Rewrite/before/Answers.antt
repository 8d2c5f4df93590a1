use Rattle.std.proofs.Common.{◌≡◌, ◌∙◌, ap, sym, ◌-◌, ◌<◌, ◌≤◌, ◌^◌, arith, length, get_or, bit_or}
use Rattle.std.specs.Int.{bit_not, w128}
use Rattle.std.proofs.Math.Nat.{pow-le-pow_right}
use Rattle.std.proofs.lemmas.Nat.{and_le_l, or_lt}
use Rattle.std.proofs.lemmas.List.{length-map}
use Rattle.network_model.specs.Bits.{Header, Bit, Pattern, letter_takes, matches}
use Rattle.ternary_bits.specs.Pieces.{least_member, least_bit}
use Rattle.ternary_bits.specs.Words.{is_one, letter_at}
use Rattle.ternary_bits.specs.Inverses.{length-places}
use Rattle.ternary_bits.proofs.Members.{least_matches}
use Rattle.ternary_bits.proofs.Rewriting.{old_bit, length-rewrite_of, source_below}
use Rattle.ternary_bits.proofs.Sources.{same_pattern, less, less-within, clash_words, to_come, before_start, before_step, before_end, before_none}
use Rattle.ternary_bits.proofs.rewrite.Rewrite.before.Goals as goal

pub returns-then-self-pattern-ne0-clause-none : goal.returns-then-self-pattern-ne0-clause-none
returns-then-self-pattern-ne0-clause-none c =
    let r = c.self.inside in
    let p = c.pattern.inside in
    let pattern = same_pattern r.bits r.set r.value p.bits p.care p.value r.sources c.args.self.now c.args.pattern.now c.self.view_is c.pattern.view_is c.requires in
    let fits : p.care < 2 ^ r.bits = rw (← pattern.0) c.pattern.invariant.2 in
    λ h width. clash_words r.bits r.set r.value p.care p.value r.sources c.args.self.now c.args.pattern.now fits c.self.view_is pattern.1 c.if-self-pattern-ne0.true h

pub invariant_of-sources : goal.invariant_of-sources
invariant_of-sources c =
    let r = c.self.inside in
    let p = c.pattern.inside in
    let pattern = same_pattern r.bits r.set r.value p.bits p.care p.value r.sources c.args.self.now c.args.pattern.now c.self.view_is c.pattern.view_is c.requires in
    let fits : p.care < 2 ^ r.bits = rw (← pattern.0) c.pattern.invariant.2 in
    let wide : 2 ^ r.bits ≤ 2 ^ 128 = pow-le-pow_right {n = 2} (omega arith) c.self.invariant.high in
    let gone : bit_or r.set r.moved < 2 ^ r.bits = or_lt r.bits r.set r.moved c.self.invariant.set_fits c.self.invariant.moved_fits in (
      c.self.invariant.low,
      c.self.invariant.high,
      omega (arith, and_le_l p.care (bit_not w128 (bit_or r.set r.moved))),
      less-within r.bits p.care p.value (bit_or r.set r.moved) c.self.invariant.high fits (omega arith) c.pattern.invariant.3,
    )

pub loop-place-init : goal.loop-place-init
loop-place-init c =
    let r = c.self.inside in
    let p = c.pattern.inside in
    let pattern = same_pattern r.bits r.set r.value p.bits p.care p.value r.sources c.args.self.now c.args.pattern.now c.self.view_is c.pattern.view_is c.requires in
    let fits : p.care < 2 ^ r.bits = rw (← pattern.0) c.pattern.invariant.2 in
    let start = before_start r.bits r.set r.value r.moved p.care p.value r.sources c.self.invariant fits c.if-self-pattern-ne0.false in
    record {
      width = length-places (letter_at (less p.care (bit_or r.set r.moved)) (less p.value (bit_or r.set r.moved))) r.bits;
      places = start.0;
      matched = start.1;
    }

pub asking-asked-requires-clause-place : goal.asking-asked-requires-clause-place
asking-asked-requires-clause-place c =
    let r = c.self.inside in
    let at = to_come r.bits r.moved c.pattern.inside.care c.loop-place.moved c.in-Some.place c.in-Some.others c.loop-place.invariant.places c.in-Some.ensures.some in
    (source_below r.bits r.set r.value r.moved r.sources c.in-Some.place c.self.invariant at.1).1

pub returns-in_default-meet-clause-none : goal.returns-in_default-meet-clause-none
returns-in_default-meet-clause-none c =
    let r = c.self.inside in
    let p = c.pattern.inside in
    let pattern = same_pattern r.bits r.set r.value p.bits p.care p.value r.sources c.args.self.now c.args.pattern.now c.self.view_is c.pattern.view_is c.requires in
    let fits : p.care < 2 ^ r.bits = rw (← pattern.0) c.pattern.invariant.2 in
    let asks : (h : Header) → length h ≡ r.bits → matches c.asking-asked.result h ≡ letter_takes (Bit (is_one p.value c.in-Some.place)) (old_bit h r.bits (r.bits - get_or r.sources c.in-Some.place 0)) =
    λ h width. c.asking-asked.ensures.asks h width ∙ ap (λ b. letter_takes (Bit b) (old_bit h r.bits (r.bits - get_or r.sources c.in-Some.place 0))) c.has_one.ensures
    in
    λ h width.
    before_none r.bits r.set r.value r.moved p.care p.value c.loop-place.moved c.in-Some.place c.in-Some.others r.sources c.args.self.now c.args.pattern.now c.loop-place.sources
    c.asking-asked.result c.self.invariant c.self.view_is pattern.1 c.loop-place.invariant.places c.in-Some.ensures.some c.loop-place.invariant.matched asks c.in_default-meet.ensures.none h
    (width ∙ length-rewrite_of r.bits r.set r.value r.sources c.args.self.now c.self.view_is)

pub loop-place-preserved : goal.loop-place-preserved
loop-place-preserved c =
    let r = c.self.inside in
    let p = c.pattern.inside in
    let pattern = same_pattern r.bits r.set r.value p.bits p.care p.value r.sources c.args.self.now c.args.pattern.now c.self.view_is c.pattern.view_is c.requires in
    let fits : p.care < 2 ^ r.bits = rw (← pattern.0) c.pattern.invariant.2 in
    let asks : (h : Header) → length h ≡ r.bits → matches c.asking-asked.result h ≡ letter_takes (Bit (is_one p.value c.in-Some.place)) (old_bit h r.bits (r.bits - get_or r.sources c.in-Some.place 0)) =
    λ h width. c.asking-asked.ensures.asks h width ∙ ap (λ b. letter_takes (Bit b) (old_bit h r.bits (r.bits - get_or r.sources c.in-Some.place 0))) c.has_one.ensures
    in
    let step =
    before_step r.bits r.set r.value r.moved p.care p.value c.loop-place.moved c.in-Some.place c.in-Some.others r.sources c.loop-place.sources c.asking-asked.result
    c.in-Some-meet.both c.self.invariant c.loop-place.invariant.places c.in-Some.ensures.some c.loop-place.invariant.matched asks c.in-Some-meet.ensures.both
    in
    record { width = c.in-Some-meet.ensures.width ∙ c.loop-place.invariant.width; places = step.0; matched = step.1 }

pub returns-clause-width : goal.returns-clause-width
returns-clause-width c =
    let r = c.self.inside in
    c.loop-place.invariant.width ∙ sym (length-rewrite_of r.bits r.set r.value r.sources c.args.self.now c.self.view_is)

pub returns-clause-sources : goal.returns-clause-sources
returns-clause-sources c =
    let r = c.self.inside in
    let p = c.pattern.inside in
    let pattern = same_pattern r.bits r.set r.value p.bits p.care p.value r.sources c.args.self.now c.args.pattern.now c.self.view_is c.pattern.view_is c.requires in
    let fits : p.care < 2 ^ r.bits = rw (← pattern.0) c.pattern.invariant.2 in
    λ h width.
    before_end r.bits r.set r.value p.care p.value c.loop-place.moved r.sources c.args.self.now c.args.pattern.now c.loop-place.sources c.self.view_is pattern.1 c.loop-place.invariant.matched
    c.in_default.ensures.none h (width ∙ length-rewrite_of r.bits r.set r.value r.sources c.args.self.now c.self.view_is)

pub returns-clause-some : goal.returns-clause-some
returns-clause-some c =
    let r = c.self.inside in
    let p = c.pattern.inside in
    let pattern = same_pattern r.bits r.set r.value p.bits p.care p.value r.sources c.args.self.now c.args.pattern.now c.self.view_is c.pattern.view_is c.requires in
    let fits : p.care < 2 ^ r.bits = rw (← pattern.0) c.pattern.invariant.2 in
    let sources : Pattern = c.loop-place.sources in
    let h : Header = least_member sources in
    let width : length h ≡ r.bits = length-map sources least_bit ∙ c.loop-place.invariant.width in
    let same =
    before_end r.bits r.set r.value p.care p.value c.loop-place.moved r.sources c.args.self.now c.args.pattern.now c.loop-place.sources c.self.view_is pattern.1 c.loop-place.invariant.matched
    c.in_default.ensures.none h width
    in
    (h, width ∙ sym (length-rewrite_of r.bits r.set r.value r.sources c.args.self.now c.self.view_is), sym same ∙ least_matches sources)
