use Rattle.std.proofs.Common.{◌≡◌, ℕ, ◌+◌, ◌≤◌, List, [], ◌++◌, length, take, drop, slice_index, slice_index_or, sym, ap, ◌∙◌, subst, add-one, arith}
use Rattle.std.specs.List.{Contains, slice_get}
use Rattle.std.proofs.lemmas.List.{length_push, take_at}
use Rattle.std.proofs.lemmas.List.Elements.{Contains-get_or}
use Rattle.network_model.specs.Cover.{rules_at, entry_at}
use Rattle.rule_cover.specs.Places.{ArePlaces}
use Rattle.rule_cover.proofs.Kept.{none_within}
use Rattle.rule_cover.proofs.PlaceLists.{lists_more}
use Rattle.rule_cover.proofs.places.rule_lists.Goals as goal
use Rattle.rule_cover.proofs.places.rule_lists.Goals.{in-Some+in_ok-list_places+in_ok-push, in_default}

pub list_places-requires-clause-among : goal.list_places-requires-clause-among
list_places-requires-clause-among c i l =
    let table = c.args.table.now in
    let n = c.loop-row.row + 1 in
    let rules = c.as_slice-rules.result.now in
    let own : rules ≡ rules_at (entry_at table n) = c.as_slice-rules.ensures ∙ ap rules_at c.in-Some.ensures in
    let on : Contains (rules_at (entry_at table n)) (slice_index rules i) = subst (λ (xs : List ℕ). Contains xs (slice_index rules i)) own (Contains-get_or rules i 0 l) in
    subst (λ (ns : List ℕ). Contains ns (slice_index rules i)) (sym (c.deref-in-Some.ensures.value ∙ c.in_ok-numbers.ensures)) (c.requires n (slice_index rules i) on)

pub loop-row-preserved : goal.loop-row-preserved
loop-row-preserved c =
    let table = c.args.table.now in
    let numbers = c.in_ok-numbers.numbers.items in
    let row = c.loop-row.row in
    let lists = c.loop-row.lists in
    let invariant = c.loop-row.invariant in
    elim c.match-entry.branch [
      | in-Some+in_ok-list_places+in_ok-push w ↦
          let list = w.deref-in-Some-3.result.now in
          let new = w.list_places.new.latest in
          let own : w.as_slice-rules.result.now ≡ rules_at (slice_get table row) = w.as_slice-rules.ensures ∙ (ap rules_at w.in-Some.ensures ∙ ap (λ (n : ℕ). rules_at (entry_at table n)) (add-one row)) in
          let listed : ArePlaces numbers w.as_slice-rules.result.now w.list_places.new.list.items =
          subst (λ (ns : List ℕ). ArePlaces ns w.as_slice-rules.result.now w.list_places.new.list.items) w.deref-in-Some.ensures.value w.in_ok-list_places.ensures.places in
          let here : ArePlaces numbers w.as_slice-rules.result.now list = subst (λ (ps : List ℕ). ArePlaces numbers w.as_slice-rules.result.now ps) (sym w.deref-in-Some-3.ensures.value) listed in
          let added : ArePlaces numbers (rules_at (slice_get table row)) list = subst (λ (rules : List ℕ). ArePlaces numbers rules list) own here in
          let size : length new ≡ length c.loop-row.latest.items = w.list_places.auto.latest ∙ ap length w.deref_mut.ensures.value in
          let whole : take c.loop-row.latest.len (new ++ drop (length new) c.loop-row.latest.items) ≡ new = take_at new (drop (length new) c.loop-row.latest.items) c.loop-row.latest.len (omega arith) in
          rw (w.lists-is, w.latest-is) (record {
            count = ap length w.in_ok-push.ensures ∙ (length_push lists list ∙ ap (λ (n : ℕ). n + 1) invariant.count);
            each = λ k below. subst (λ (ls : List (List ℕ)). ArePlaces numbers (rules_at (slice_get table k)) (slice_index_or ls k [])) (sym w.in_ok-push.ensures) (lists_more numbers table lists list row invariant.count invariant.each added k below);
            room = ap length whole ∙ (size ∙ invariant.room);
            latest = λ p. subst (λ (xs : List ℕ). slice_index xs p ≤ row + 1) (sym whole) (w.in_ok-list_places.ensures.latest p);
          })
      | in_default w ↦ absurd (none_within table row (omega (arith, c.loop-row-test.true, c.len-row-end.ensures)) (w.in_default.ensures ∙ ap (entry_at table) (add-one row)))
    ]
