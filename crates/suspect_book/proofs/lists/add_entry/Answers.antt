use Rattle.std.proofs.Common.{◌≡◌, ℕ, List, [], ◌||◌, ◌&&◌, ◌<◌, ◌≤◌, take, length, slice_index, slice_index_or, slice_set, nat_eq, sym, ap, ◌∙◌, subst, arith}
use Rattle.std.specs.List.Sorted.{IsStrictlyIncreasing}
use Rattle.std.proofs.lemmas.List.{get_or_default}
use Rattle.fault_model.specs.Outcomes.{has}
use Rattle.suspect_book.proofs.Marking.{item_among, item_taken}
use Rattle.suspect_book.proofs.Listings.{rising_more, below_more, has_more}
use Rattle.suspect_book.proofs.lists.add_entry.Goals as goal

pub place_of-requires-clause-among : goal.place_of-requires-clause-among
place_of-requires-clause-among c =
    item_among c.args.numbers.now c.args.rules.now c.loop-rule.rule-index c.rule-item.result c.requires.among c.loop-rule-test.true c.rule-item.is

pub add-requires-clause-rises : goal.add-requires-clause-rises
add-requires-clause-rises c =
    let lists = c.loop-rule.lists in
    let p = c.place_of.result in
    let within : p < length lists = omega (arith, c.place_of.ensures.inside, c.requires.room, c.loop-rule.auto.lists) in
    subst IsStrictlyIncreasing (get_or_default lists p [] c.index-lists-place_of.result within) (c.loop-rule.invariant.rising p within)

pub add-requires-clause-last : goal.add-requires-clause-last
add-requires-clause-last c =
    let lists = c.loop-rule.lists in
    let p = c.place_of.result in
    let within : p < length lists = omega (arith, c.place_of.ensures.inside, c.requires.room, c.loop-rule.auto.lists) in
    subst (λ (xs : List ℕ). (i : ℕ) → i < length xs → slice_index xs i ≤ c.args.place) (get_or_default lists p [] c.index-lists-place_of.result within)
    (λ i l. let low = c.loop-rule.invariant.last p i within l in omega arith)

pub loop-rule-preserved : goal.loop-rule-preserved
loop-rule-preserved c =
    let numbers = c.args.numbers.now in
    let rules = c.args.rules.now in
    let i = c.loop-rule.rule-index in
    let r = c.rule-item.result in
    let lists = c.loop-rule.lists in
    let first = c.args.lists.now in
    let p = c.place_of.result in
    let list = c.add.new.self in
    let room : length lists ≡ length numbers = c.loop-rule.auto.lists ∙ c.requires.room in
    let within : p < length lists = omega (arith, c.place_of.ensures.inside, room) in
    let same = get_or_default lists p c.index-lists-place_of.result [] within in
    record {
      rising = rising_more numbers lists first (take i rules) p c.args.place r list c.requires.rises room c.place_of.ensures.inside c.place_of.ensures.found c.in_ok-add.ensures.rises c.loop-rule.invariant.rising;
      last = below_more numbers lists first (take i rules) p c.args.place r list c.requires.rises room c.place_of.ensures.inside c.place_of.ensures.found c.in_ok-add.ensures.last c.loop-rule.invariant.last;
      each = subst (λ (l : List ℕ). (q k : ℕ) → q < length numbers → has (slice_index_or (slice_set lists p list) q []) k ≡ ((nat_eq k c.args.place && has l (slice_index numbers q)) || has (slice_index_or first q []) k))
          (sym (item_taken rules i r c.loop-rule-test.true c.rule-item.is))
          (has_more numbers lists first (take i rules) p c.args.place r list c.requires.rises room c.place_of.ensures.inside c.place_of.ensures.found
          (λ k. c.in_ok-add.ensures.has k ∙ ap (λ (xs : List ℕ). nat_eq k c.args.place || has xs k) same) c.loop-rule.invariant.each);
    }
