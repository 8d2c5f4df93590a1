use Rattle.std.proofs.Common.{◌<◌, ◌^◌, ◌-◌, not, eqb, arith}
use Rattle.std.proofs.lemmas.Nat.{and_le_r}
use Rattle.network_model.specs.Rewrites.{LiesWithin}
use Rattle.ternary_bits.specs.Items.{item_of}
use Rattle.ternary_bits.specs.Words.{IsWritten}
use Rattle.ternary_bits.proofs.Rewriting.{length-rewrite_of}
use Rattle.ternary_bits.proofs.ItemsAt.{Wrote, within_wider, write_ok, write_view}
use Rattle.ternary_bits.proofs.rewrite.Rewrite.set_item.Goals as goal

pub overflow_sub-self-inside : goal.overflow_sub-self-inside
overflow_sub-self-inside c =
    let r = c.self.inside in
    let width = length-rewrite_of r.bits r.set r.value r.sources c.args.self.now c.self.view_is in
    let high = c.self.invariant.high in
    let inside = c.requires.place in
    omega arith

pub words_at-set-requires-clause-place : goal.words_at-set-requires-clause-place
words_at-set-requires-clause-place c =
    let r = c.self.inside in
    let width = length-rewrite_of r.bits r.set r.value r.sources c.args.self.now c.self.view_is in
    let high = c.self.invariant.high in
    let inside = c.requires.place in
    omega arith

pub words_at-set-requires-clause-item : goal.words_at-set-requires-clause-item
words_at-set-requires-clause-item c =
    let r = c.self.inside in
    let width = length-rewrite_of r.bits r.set r.value r.sources c.args.self.now c.self.view_is in
    let high = c.self.invariant.high in
    let inside = c.requires.place in
    within_wider _ 128 _ (omega arith) c.requires.item

pub with_bit-self-inside-requires : goal.with_bit-self-inside-requires
with_bit-self-inside-requires c =
    let r = c.self.inside in
    let width = length-rewrite_of r.bits r.set r.value r.sources c.args.self.now c.self.view_is in
    let high = c.self.invariant.high in
    let inside = c.requires.place in
    omega arith

pub with_bit-self-inside-requires-2 : goal.with_bit-self-inside-requires-2
with_bit-self-inside-requires-2 c =
    let r = c.self.inside in
    let width = length-rewrite_of r.bits r.set r.value r.sources c.args.self.now c.self.view_is in
    let high = c.self.invariant.high in
    let inside = c.requires.place in
    omega arith

pub with_bit-self-inside-requires-3 : goal.with_bit-self-inside-requires-3
with_bit-self-inside-requires-3 c =
    let r = c.self.inside in
    let width = length-rewrite_of r.bits r.set r.value r.sources c.args.self.now c.self.view_is in
    let high = c.self.invariant.high in
    let inside = c.requires.place in
    omega arith

pub bounds-self-inside-place : goal.bounds-self-inside-place
bounds-self-inside-place c =
    let r = c.self.inside in
    let width = length-rewrite_of r.bits r.set r.value r.sources c.args.self.now c.self.view_is in
    let high = c.self.invariant.high in
    let inside = c.requires.place in
    omega arith

pub invariant_of-self : goal.invariant_of-self
invariant_of-self c =
    let r = c.self.inside in
    let width = length-rewrite_of r.bits r.set r.value r.sources c.args.self.now c.self.view_is in
    let high = c.self.invariant.high in
    let inside = c.requires.place in
    let l : c.args.place < r.bits = omega arith in
    let fits : r.value < 2 ^ r.bits = omega (arith, and_le_r r.value r.set, c.self.invariant.value_within, c.self.invariant.set_fits) in
    let within : LiesWithin r.bits (item_of c.args.item) = rw width at c.requires.item in
    let written : IsWritten r.bits (r.bits - c.args.place) (item_of c.args.item) c.words_at-set.result.0 c.words_at-set.result.1 c.words_at-set.result.2 =
    c.words_at-set.ensures r.bits within
    in
    let sets : Wrote r.bits r.set c.args.place c.with_bit-self-inside.result c.words_at-set.result.0 = record {
      here = c.with_bit-self-inside.ensures.here;
      others = c.with_bit-self-inside.ensures.others;
      fits = c.with_bit-self-inside.ensures.fits r.bits high l c.self.invariant.set_fits;
    } in
    let values : Wrote r.bits r.value c.args.place c.with_bit-self-inside-2.result c.words_at-set.result.1 = record {
      here = c.with_bit-self-inside-2.ensures.here;
      others = c.with_bit-self-inside-2.ensures.others;
      fits = c.with_bit-self-inside-2.ensures.fits r.bits high l fits;
    } in
    let moves : Wrote r.bits r.moved c.args.place c.with_bit-self-inside-3.result (not (eqb c.words_at-set.result.2 0)) = record {
      here = c.with_bit-self-inside-3.ensures.here;
      others = c.with_bit-self-inside-3.ensures.others;
      fits = c.with_bit-self-inside-3.ensures.fits r.bits high l c.self.invariant.moved_fits;
    } in
    write_ok r.bits r.set r.value r.moved c.args.place c.with_bit-self-inside.result c.with_bit-self-inside-2.result c.with_bit-self-inside-3.result c.words_at-set.result.2 r.sources _ _ _ c.self.invariant l written sets values moves

pub returns : goal.returns
returns c =
    let r = c.self.inside in
    let width = length-rewrite_of r.bits r.set r.value r.sources c.args.self.now c.self.view_is in
    let high = c.self.invariant.high in
    let inside = c.requires.place in
    let l : c.args.place < r.bits = omega arith in
    let fits : r.value < 2 ^ r.bits = omega (arith, and_le_r r.value r.set, c.self.invariant.value_within, c.self.invariant.set_fits) in
    let within : LiesWithin r.bits (item_of c.args.item) = rw width at c.requires.item in
    let written : IsWritten r.bits (r.bits - c.args.place) (item_of c.args.item) c.words_at-set.result.0 c.words_at-set.result.1 c.words_at-set.result.2 =
    c.words_at-set.ensures r.bits within
    in
    let sets : Wrote r.bits r.set c.args.place c.with_bit-self-inside.result c.words_at-set.result.0 = record {
      here = c.with_bit-self-inside.ensures.here;
      others = c.with_bit-self-inside.ensures.others;
      fits = c.with_bit-self-inside.ensures.fits r.bits high l c.self.invariant.set_fits;
    } in
    let values : Wrote r.bits r.value c.args.place c.with_bit-self-inside-2.result c.words_at-set.result.1 = record {
      here = c.with_bit-self-inside-2.ensures.here;
      others = c.with_bit-self-inside-2.ensures.others;
      fits = c.with_bit-self-inside-2.ensures.fits r.bits high l fits;
    } in
    record { item = write_view r.bits r.set r.value r.moved c.args.place c.with_bit-self-inside.result c.with_bit-self-inside-2.result c.with_bit-self-inside-3.result c.words_at-set.result.2 r.sources c.args.self.now _ _ _ c.self.invariant l written sets values c.self.view_is }
