use Rattle.std.proofs.Common.{◌≡◌, ◌+◌, ◌-◌, ◌<◌, ◌≤◌, ◌∙◌, ap, sym, length, get_or, None, rules, tests, arith, subst, List, ℕ}
use Rattle.std.specs.Prelude.{slice_set}
use Rattle.std.specs.List.{slice_split}
use Rattle.std.proofs.lemmas.List.{length_push}
use Rattle.std.proofs.lemmas.List.Splits.{length-slice_split}
use Rattle.std.proofs.lemmas.Iterator.Consumers.{YieldsList-turn, YieldsList-end}
use Rattle.std.proofs.lemmas.Iterator.Splits.{YieldsList-from_slice_split}
use Rattle.text_words.proofs.FirstWords.{IsPart}
use Rattle.network_model.proofs.RewriteLaws.{length-kept}
use Rattle.ternary_bits.specs.Items.{item_of}
use Rattle.ternary_bits.specs.Moves.{comma, moving_items, joined_items}
use Rattle.ternary_bits.proofs.Moving.{HasTaken, taken_none, taken_more, taken_wrong, taken_all, joined_few, joined_many}
use Rattle.ternary_bits.proofs.moves.read_items.Goals as goal

abbrev parts_of : List ℕ → List (List ℕ)
parts_of text = slice_split comma text

pub returns-then-commas-ge128-clause-none : goal.returns-then-commas-ge128-clause-none
returns-then-commas-ge128-clause-none c =
    joined_many (parts_of c.args.text.now) (omega (arith, length-slice_split comma c.args.text.now, c.commas_in-commas.ensures))

pub loop-word-init : goal.loop-word-init
loop-word-init c =
    let count : ℕ = c.commas_in-commas.result + 1 in
    record {
      counted = search rules;
      taken = taken_none count (parts_of c.args.text.now) c.keep-rewrite.result (ap length c.keep-rewrite.ensures ∙ length-kept count);
    }

pub overflow_add-place : goal.overflow_add-place
overflow_add-place c =
    let at : IsPart (parts_of c.args.text.now) (length c.loop-word.yielded) c.in-Some.word = YieldsList-turn (YieldsList-from_slice_split _ comma c.args.text.now (cc) (cc) (cc) (λ x b q k. search (rules, tests))) c.loop-word.yielded _ c.loop-word.yielded_by _ _ c.in-Some.word c.in-Some.is c.next.ensures.steps in
    omega (arith, at.0, length-slice_split comma c.args.text.now, c.commas_in-commas.ensures, c.loop-word.invariant.counted)

pub read_item-requires : goal.read_item-requires
read_item-requires c =
    let at : IsPart (parts_of c.args.text.now) (length c.loop-word.yielded) c.in-Some.word = YieldsList-turn (YieldsList-from_slice_split _ comma c.args.text.now (cc) (cc) (cc) (λ x b q k. search (rules, tests))) c.loop-word.yielded _ c.loop-word.yielded_by _ _ c.in-Some.word c.in-Some.is c.next.ensures.steps in
    (omega arith, omega (arith, at.0, length-slice_split comma c.args.text.now, c.commas_in-commas.ensures, c.loop-word.invariant.counted))

pub overflow_sub-count : goal.overflow_sub-count
overflow_sub-count c =
    let at : IsPart (parts_of c.args.text.now) (length c.loop-word.yielded) c.in-Some.word = YieldsList-turn (YieldsList-from_slice_split _ comma c.args.text.now (cc) (cc) (cc) (λ x b q k. search (rules, tests))) c.loop-word.yielded _ c.loop-word.yielded_by _ _ c.in-Some.word c.in-Some.is c.next.ensures.steps in
    omega (arith, at.0, length-slice_split comma c.args.text.now, c.commas_in-commas.ensures, c.loop-word.invariant.counted)

pub returns-in_err-item-clause-none : goal.returns-in_err-item-clause-none
returns-in_err-item-clause-none c =
    let parts = parts_of c.args.text.now in
    let count : ℕ = c.commas_in-commas.result + 1 in
    let at : IsPart parts (length c.loop-word.yielded) c.in-Some.word = YieldsList-turn (YieldsList-from_slice_split _ comma c.args.text.now (cc) (cc) (cc) (λ x b q k. search (rules, tests))) c.loop-word.yielded _ c.loop-word.yielded_by _ _ c.in-Some.word c.in-Some.is c.next.ensures.steps in
    let width : length parts ≡ count = length-slice_split comma c.args.text.now ∙ ap (λ n. n + 1) (sym c.commas_in-commas.ensures) in
    let counted : c.loop-word.place ≡ length c.loop-word.yielded = c.loop-word.invariant.counted in
    let inside : c.loop-word.place < length parts = omega (arith, at.0) in
    let word : c.in-Some.word.now ≡ get_or parts c.loop-word.place c.in-Some.word.now = at.1 ∙ ap (λ k. get_or parts k c.in-Some.word.now) (sym counted) in
    let none : moving_items count 1 parts ≡ None =
    taken_wrong count c.loop-word.place parts c.loop-word.rewrite c.in-Some.word.now inside word c.in_err-item.ensures.none c.loop-word.invariant.taken
    in
    let few : c.commas_in-commas.result + 1 ≤ 128 = omega arith in
    let wrong : joined_items parts ≡ None = joined_few count parts width few ∙ none in
    rw c.from_residual.ensures wrong

pub loop-word-preserved : goal.loop-word-preserved
loop-word-preserved c =
    let parts = parts_of c.args.text.now in
    let count : ℕ = c.commas_in-commas.result + 1 in
    let at : IsPart parts (length c.loop-word.yielded) c.in-Some.word = YieldsList-turn (YieldsList-from_slice_split _ comma c.args.text.now (cc) (cc) (cc) (λ x b q k. search (rules, tests))) c.loop-word.yielded _ c.loop-word.yielded_by _ _ c.in-Some.word c.in-Some.is c.next.ensures.steps in
    let width : length parts ≡ count = length-slice_split comma c.args.text.now ∙ ap (λ n. n + 1) (sym c.commas_in-commas.ensures) in
    let counted : c.loop-word.place ≡ length c.loop-word.yielded = c.loop-word.invariant.counted in
    let inside : c.loop-word.place < length parts = omega (arith, at.0) in
    let word : c.in-Some.word.now ≡ get_or parts c.loop-word.place c.in-Some.word.now = at.1 ∙ ap (λ k. get_or parts k c.in-Some.word.now) (sym counted) in
    let more : HasTaken count (c.loop-word.place + 1) parts (slice_set c.loop-word.rewrite c.loop-word.place (item_of c.in_ok-item.item)) =
    taken_more count c.loop-word.place parts c.loop-word.rewrite c.in-Some.word.now (item_of c.in_ok-item.item) inside (omega arith) word c.in_ok-item.ensures.some.0 c.loop-word.invariant.taken
    in
    let size : length c.loop-word.rewrite ≡ count = c.loop-word.invariant.taken.width in
    let index : length c.loop-word.rewrite - 1 - (count - (c.loop-word.place + 1)) ≡ c.loop-word.place = omega arith in
    record {
      counted = omega (arith, length_push c.loop-word.yielded c.in-Some.word);
      taken =
          subst (HasTaken count (c.loop-word.place + 1) parts)
          (sym (c.set_item.ensures.item ∙ ap (λ k. slice_set c.loop-word.rewrite k (item_of c.in_ok-item.item)) index))
          more;
    }

pub returns-clause-some : goal.returns-clause-some
returns-clause-some c =
    let parts = parts_of c.args.text.now in
    let count : ℕ = c.commas_in-commas.result + 1 in
    let all = YieldsList-end (YieldsList-from_slice_split _ comma c.args.text.now (cc) (cc) (cc) (λ x b q k. search (rules, tests))) c.loop-word.yielded _ c.loop-word.yielded_by _ _ c.in-None.is c.next.ensures.steps in
    let width : length parts ≡ count = length-slice_split comma c.args.text.now ∙ ap (λ n. n + 1) (sym c.commas_in-commas.ensures) in
    let counted : c.loop-word.place ≡ length c.loop-word.yielded = c.loop-word.invariant.counted in
    let few : count ≤ 128 = omega arith in
    joined_few count parts width few ∙ taken_all count c.loop-word.place parts c.loop-word.rewrite (omega (arith, all.1)) (omega (arith, all.1)) c.loop-word.invariant.taken
