use Rattle.std.proofs.Common.{◌≡◌, ◌+◌, ◌-◌, ◌<◌, ◌≤◌, ℕ, suc, Bool, List, true, false, ◌++◌, [], ◌∷◌, Some, length, take, slice_get, slice_index_or, slice_set, Contains, sym, ap, ◌∙◌, subst, arith}
use Rattle.std.proofs.lemmas.List.{length-set, take_more}
use Rattle.std.proofs.lemmas.List.Elements.{Contains-get_or}
use Rattle.std.proofs.lemmas.Option.{slice_get_within, get_or_from_slice_get}
use Rattle.network_model.specs.Plan.{Plan, reserved}
use Rattle.fault_model.specs.Outcomes.{has}
use Rattle.fault_model.proofs.Followed.{reserved_number}
use Rattle.rule_cover.proofs.Kept.{none_within}
use Rattle.suspect_book.proofs.Listings.{row_more}
use Rattle.suspect_book.proofs.lists.reserved_rows.Goals as goal
use Rattle.suspect_book.proofs.lists.reserved_rows.Goals.{in-Some, in_default}

reserved_at : (plan : Plan) (i entry : ℕ) → slice_get (reserved plan) i ≡ Some entry → (0 < entry) × (entry ≤ length plan.table)
reserved_at plan i entry at =
    let inside : i < length (reserved plan) = slice_get_within (reserved plan) i entry at in
    reserved_number plan entry (subst (Contains (reserved plan)) (get_or_from_slice_get (reserved plan) i entry 0 at) (Contains-get_or (reserved plan) i 0 inside))

taken : (xs : List ℕ) (i x : ℕ) → slice_get xs i ≡ Some x → take (i + 1) xs ≡ take i xs ++ x ∷ []
taken xs i x at =
    take_more xs i 0 (slice_get_within xs i x at) ∙ ap (λ (y : ℕ). take i xs ++ y ∷ []) (get_or_from_slice_get xs i x 0 at)

pub overflow_sub-entry : goal.overflow_sub-entry
overflow_sub-entry c =
    let number = reserved_at c.args.plan.now.plan c.loop-i.i c.in-Some.entry (sym c.in-Some.ensures) in
    omega (arith, number.0)

pub index_mut-requires : goal.index_mut-requires
index_mut-requires c =
    let number = reserved_at c.args.plan.now.plan c.loop-i.i c.in-Some.entry (sym c.in-Some.ensures) in
    omega (arith, number.0, number.1, c.loop-i.invariant.room, c.loop-i.rows.ok.0)

pub loop-i-preserved : goal.loop-i-preserved
loop-i-preserved c =
    let plan = c.args.plan.now.plan in
    let i = c.loop-i.i in
    elim c.match-reserved.branch [
      | in-Some w ↦
          let entry = w.in-Some.entry in
          let at : slice_get (reserved plan) i ≡ Some entry = sym w.in-Some.ensures in
          let number = reserved_at plan i entry at in
          let old = c.loop-i.rows.items in
          let room : length old ≡ length plan.table = c.loop-i.invariant.room in
          let same : c.match-reserved.rows.items ≡ slice_set old (entry - 1) true = ap (λ v. v.items) w.rows-is in
          record {
            room = ap length same ∙ (length-set old (entry - 1) true ∙ room);
            told = λ k l.
                ap (λ (r : List Bool). slice_index_or r k false) same
                ∙ (row_more old (take i (reserved plan)) entry (entry - 1) (omega (arith, number.0)) (omega (arith, number.0, number.1, room)) (length plan.table) c.loop-i.invariant.told k l
                ∙ sym (ap (λ (xs : List ℕ). has xs (suc k)) (taken (reserved plan) i entry at)));
          }
      | in_default w ↦
          absurd (none_within (reserved plan) i (omega (arith, c.loop-i-test.true, c.reserved_count-i-end.ensures)) w.in_default.ensures)
    ]
