-- A call as a whole: from what the pass knew to what it knows.
use Rattle.std.proofs.Common.{◌≡◌, ℕ, ◌+◌, ◌%◌, ◌^◌, ◌<◌, ◌≤◌, true, false, cond, nat_lt, List, [], ◌∷◌, ◌++◌, map, length, refl, sym, ap, ◌∙◌, subst, arith}
use Rattle.std.specs.Prelude.{Some, None}
use Rattle.std.specs.List.{filter, enumerate_from}
use Rattle.std.proofs.Math.Seq.{drop-length}
use Rattle.std.proofs.lemmas.Bool.Decides.{nat_tests}
use Rattle.atomic_table.specs.Seated.{TableId}
use Rattle.atomic_table.specs.Table.{Me, Allows}
use Rattle.desk_core.specs.declared.event.Event.{Event}
use Rattle.desk_core.specs.declared.event.Logged.{Logged}
use Rattle.desk_core.specs.declared.reply.Reply.{Reply}
use Rattle.desk_core.specs.Past.{past_of}
use Rattle.desk_core.specs.Legal.{IsLegal}
use Rattle.desk_core.specs.DeskValue.{DeskValue}
use Rattle.desk_core.specs.Applying.{IsEntered}
use Rattle.desk_turns.specs.declared.rule.Opened.{Opened}
use Rattle.desk_turns.specs.declared.rule.Known.{Known}
use Rattle.desk_turns.specs.declared.pass.Pass.TheInside.{Inside as PassFields}
use Rattle.desk_turns.specs.Histories.{is_by}
use Rattle.desk_turns.specs.Shared.{most_seats, most_room, PassValue, fresh, desk_at, own_calls, IsAnswered, IsFull}
use Rattle.desk_turns.specs.Passes.{desk_id, value_of, known_of, first_known, HasOwnCalls}
use Rattle.desk_turns.specs.Fields.{pass_of, IsOnePass}
use Rattle.desk_turns.specs.Rule.{Slot, fresh_known, drawn, IsTurns, TakesTurn, Waits, HasTurn, Answers}
use Rattle.desk_turns.proofs.Turning.{later_by_this}
use Rattle.desk_turns.proofs.Draws.{draws, with_place, with_end}

abbrev Mine : Type 0
Mine = Me Slot (List Known)

abbrev me_of : List Known → List (ℕ × Slot) → Mine
me_of ks c = (ks, c)

-- a pass by its fields
pub record Holds (p : PassFields) (w : PassValue) : Type 0 where
  pub me : p.seat.me ≡ (known_of w ∷ [], [])
  pub table : p.seat.table_id ≡ w.desk.table
  pub own : HasOwnCalls w

pub held_value : (p : PassFields) (w : PassValue) → Holds p w → pass_of p ≡ w
held_value p w h =
    ap (λ (m : Mine). value_of p.seat.table_id (first_known m.0)) h.me
    ∙ (ap (λ (t : TableId). value_of t (known_of w)) h.table
    ∙ ap (λ calls. record w { calls = calls }) (sym h.own))

pub held_pass : (p : PassFields) (w : PassValue) → Holds p w → 0 < w.number → w.number ≡ p.number → w.desk.opening.room ≡ p.room → w.full ≡ p.full
    → ((place : ℕ) → p.full ≡ Some place → p.room ≤ place) → w.desk.opening.room ≤ most_room → w.desk.seats ≤ most_seats → IsOnePass p
held_pass p w h numbered number_is room_is full_is past small few = record {
  known = known_of w;
  me = h.me;
  idle = refl;
  number_is = number_is;
  numbered = numbered;
  room_is = room_is;
  full_is = full_is;
  past_room = past;
  small = small;
  few = few;
}

-- a pass that was dealt out
pub fresh_held : (p : PassFields) (of : Opened) → p.seat.me ≡ (fresh_known of p.number ∷ [], []) → Holds p (fresh (desk_id p.seat.table_id of) p.number)
fresh_held p of me = record {
  me = me;
  table = refl;
  own = sym (ap (λ h. filter (is_by p.number) (enumerate_from (length of.desk.log) h)) (drop-length of.desk.log));
}

pub fresh_pass : (p : PassFields) (of : Opened) → p.seat.me ≡ (fresh_known of p.number ∷ [], []) → 0 < p.number → of.desk.room ≡ p.room → p.full ≡ None → p.room ≤ most_room → of.seats ≤ most_seats → IsOnePass p
fresh_pass p of me numbered room none small few =
    held_pass p (fresh (desk_id p.seat.table_id of) p.number) (fresh_held p of me) numbered refl room (sym none) (λ place is. absurd (not_some place (sym is ∙ none))) (subst (λ (n : ℕ). n ≤ most_room) (sym room) small) few
  where
    not_some : (place : ℕ) → Some place ≡ None → ⊥
    not_some place e = cc

pub may_draw : (of : Opened) (id slots : ℕ) (m : Mine) (v : PassValue) → m ≡ (known_of v ∷ [], []) → v.full ≡ None → 0 < v.number → v.desk.opening.room ≤ most_room → v.desk.seats ≤ most_seats
    → Allows (IsTurns of) slots id m 0 (λ n. (n + 1) % 2 ^ 64) (λ found after. after ≡ (map (drawn found) m.0, m.1))
may_draw of id slots m v me none numbered small few =
    subst (λ (n : Mine). Allows (IsTurns of) slots id n 0 (λ n. (n + 1) % 2 ^ 64) (λ found after. after ≡ (map (drawn found) n.0, n.1))) (sym me)
    (draws of id (known_of v) slots refl none numbered small few)

abbrev pub ended : PassValue → ℕ → PassValue
ended v place = record v { full = Some place }

abbrev pub after_call : PassValue → List Logged → PassValue
after_call v history = record v { seen = history; calls = own_calls v history }

-- past the room
pub drew_past : (m new : Mine) (v : PassValue) (found : ℕ) → m ≡ (known_of v ∷ [], []) → new ≡ (map (drawn found) m.0, m.1) → v.desk.opening.room ≤ found → new ≡ (known_of (ended v found) ∷ [], [])
drew_past m new v found me told past =
    let test : nat_lt found v.desk.opening.room ≡ false = past_test found v.desk.opening.room past in
    told ∙ (ap (λ (n : Mine). me_of (map (drawn found) n.0) n.1) me
    ∙ ap (λ b. me_of (cond b (with_place (known_of v) found) (with_end (known_of v) found) ∷ []) []) test)
  where
    past_test : (a b : ℕ) → b ≤ a → nat_lt a b ≡ false
    past_test a b le = grind (arith, nat_tests)

-- below it
pub drew_place : (m new : Mine) (v : PassValue) (found : ℕ) → m ≡ (known_of v ∷ [], []) → new ≡ (map (drawn found) m.0, m.1) → found < v.desk.opening.room → new ≡ (with_place (known_of v) found ∷ [], [])
drew_place m new v found me told room =
    let test : nat_lt found v.desk.opening.room ≡ true = room_test found v.desk.opening.room room in
    told ∙ (ap (λ (n : Mine). me_of (map (drawn found) n.0) n.1) me
    ∙ ap (λ b. me_of (cond b (with_place (known_of v) found) (with_end (known_of v) found) ∷ []) []) test)
  where
    room_test : (a b : ℕ) → a < b → nat_lt a b ≡ true
    room_test a b lt = grind (arith, nat_tests)

pub waits : (new : Mine) (v : PassValue) (found : ℕ) → new ≡ (with_place (known_of v) found ∷ [], []) → 0 < v.number → Waits new found
waits new v found me numbered = (with_place (known_of v) found, me, refl, refl, numbered)

pub gets_turn : (m2 : Mine) (v : PassValue) (place caller : ℕ) → TakesTurn (with_place (known_of v) place) place m2 → v.number ≡ caller → place < most_room → HasTurn m2 caller place
gets_turn m2 v place caller t is small = (with_place (known_of v) place, t.0, t.1, is, t.4, t.5, small, t.6, t.7)

-- the pass is seen with its calls
pub is_full : (v : PassValue) (place : ℕ) → v.desk.opening.room ≤ place → v.full ≡ None → IsFull v place (ended v place)
is_full v place past none = record {
  past_room = past;
  again = λ earlier is. absurd (not_both earlier (sym is ∙ none));
  stays = refl;
}
  where
    not_both : (earlier : ℕ) → Some earlier ≡ None → ⊥
    not_both earlier e = cc

pub is_still_full : (v : PassValue) (place : ℕ) → v.desk.opening.room ≤ place → v.full ≡ Some place → IsFull v place v
is_still_full v place past is = record {
  past_room = past;
  again = λ earlier other. one_place earlier (sym is ∙ other);
  stays = ap (λ full. record v { full = full }) is;
}
  where
    one_place : (earlier : ℕ) → Some place ≡ Some earlier → place ≡ earlier
    one_place earlier e = cc

answered_at : (v : PassValue) (event : Event) (reply : Reply) (place : ℕ) (rest history' : List Logged) → v.full ≡ None → HasOwnCalls v → length (v.seen ++ rest) ≡ place → place < v.desk.opening.room
    → length v.desk.opening.log ≤ length (v.seen ++ rest) → own_calls v (v.seen ++ rest) ≡ own_calls v v.seen
    → IsEntered (desk_at v.desk.opening (v.seen ++ rest)) v.number event reply (desk_at v.desk.opening history') → IsLegal (past_of history')
    → IsAnswered v event reply place (after_call v history')
answered_at v event reply place rest history' none own place_is room opened same entered legal = record {
  open_before = none;
  between = rest;
  place_is = sym place_is;
  in_room = room;
  entered = entered;
  legal = legal;
  calls =
      let added : history' ≡ (v.seen ++ rest) ++ entered.entry ∷ [] = ap (λ (d : DeskValue). d.log) entered.added in
      ap (λ h. own_calls v h) added
      ∙ (later_by_this v.number (length v.desk.opening.log) (v.seen ++ rest) entered.entry opened entered.by
      ∙ (λ i. (same ∙ sym own) i ++ (place_is i, entered.entry) ∷ []));
  own = refl;
  stays = refl;
}

pub is_answered : (m2 m3 : Mine) (v : PassValue) (event : Event) (reply : Reply) (place caller : ℕ) → v.full ≡ None → HasOwnCalls v → v.number ≡ caller
    → (t : TakesTurn (with_place (known_of v) place) place m2) → Answers (with_place (known_of v) place) t.0 caller event reply m3
    → (history' : List Logged) × (m3 ≡ (known_of (after_call v history') ∷ [], [])) × IsAnswered v event reply place (after_call v history')
is_answered m2 m3 v event reply place caller none own is t a = (a.0, a.1, by_history)
  where
    Entered : List Logged → ℕ → Type 0
    Entered history by = IsEntered (desk_at v.desk.opening history) by event reply (desk_at v.desk.opening a.0)

    by_history : IsAnswered v event reply place (after_call v a.0)
    by_history =
        let History : List Logged → Type 0 = λ h. length v.desk.opening.log ≤ length h in
        let Length : List Logged → Type 0 = λ h. length h ≡ place in
        let Own : List Logged → Type 0 = λ h. own_calls v h ≡ own_calls v v.seen in
        let e = t.2.1 in
        answered_at v event reply place t.2.0 a.0 none own (subst Length e t.4) t.5 (subst History e t.3) (subst Own e t.9)
        (subst (λ (h : List Logged). Entered h v.number) e (subst (λ (n : ℕ). Entered t.0 n) (sym is) a.2)) a.3
