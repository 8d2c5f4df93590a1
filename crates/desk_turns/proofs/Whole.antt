-- A call by the fields of its pass: what each of its parts asks, and what it comes to.
use Rattle.std.proofs.Common.{◌≡◌, ℕ, ◌+◌, ◌%◌, ◌^◌, ◌<◌, ◌≤◌, List, [], ◌∷◌, map, refl, sym, ◌∙◌, subst, arith}
use Rattle.std.specs.Prelude.{Some, None}
use Rattle.atomic_table.specs.Table.{Me, Allows}
use Rattle.desk_core.specs.declared.event.Event.{Event}
use Rattle.desk_core.specs.declared.event.Logged.{Logged}
use Rattle.desk_core.specs.declared.reply.Reply.{Reply}
use Rattle.desk_turns.specs.declared.rule.Opened.{Opened}
use Rattle.desk_turns.specs.declared.rule.Known.{Known}
use Rattle.desk_turns.specs.declared.pass.Pass.TheInside.{Inside as PassFields}
use Rattle.desk_turns.specs.Shared.{PassValue, desk_at, IsAnswered, IsFull}
use Rattle.desk_turns.specs.Passes.{known_of}
use Rattle.desk_turns.specs.Fields.{pass_of, IsOnePass}
use Rattle.desk_turns.specs.Rule.{Slot, drawn, serving, IsTurns, TakesTurn, Waits, HasTurn, Answers}
use Rattle.desk_turns.proofs.Draws.{with_place}
use Rattle.desk_turns.proofs.Seen.{Seen}
use Rattle.desk_turns.proofs.Answered.{Holds, held_value, held_pass, may_draw, ended, after_call, drew_past, drew_place, waits, gets_turn, is_full, is_still_full, is_answered}

abbrev Mine : Type 0
Mine = Me Slot (List Known)

module _ (p : PassFields) (v : PassValue) (s : Seen p v) where
  pub draw : (of : Opened) (slots : ℕ) → p.full ≡ None → Allows (IsTurns of) slots p.seat.id p.seat.me 0 (λ n. (n + 1) % 2 ^ 64) (λ found after. after ≡ (map (drawn found) p.seat.me.0, p.seat.me.1))
  draw of slots none = may_draw of p.seat.id slots p.seat.me v s.me (s.full_is ∙ none) s.numbered s.small s.few

  pub still_full : (place : ℕ) → p.full ≡ Some place → p.room ≤ place → IsFull v place v
  still_full place is past = is_still_full v place (subst (λ (n : ℕ). n ≤ place) (sym s.room_is) past) (s.full_is ∙ is)

  module _ (none : p.full ≡ None) (place : ℕ) (m1 : Mine) (told : m1 ≡ (map (drawn place) p.seat.me.0, p.seat.me.1)) where
    past_holds : (q : PassFields) → q.seat.me ≡ m1 → q.seat.table_id ≡ p.seat.table_id → p.room ≤ place → Holds q (ended v place)
    past_holds q me table past = record {
      me = me ∙ drew_past p.seat.me m1 v place s.me told (subst (λ (n : ℕ). n ≤ place) (sym s.room_is) past);
      table = table ∙ s.table;
      own = s.own;
    }

    pub past_pass : (q : PassFields) → q.seat.me ≡ m1 → q.seat.table_id ≡ p.seat.table_id → q.number ≡ p.number → q.room ≡ p.room → q.full ≡ Some place → p.room ≤ place → IsOnePass q
    past_pass q me table number room full past =
        held_pass q (ended v place) (past_holds q me table past) s.numbered (s.number_is ∙ sym number) (s.room_is ∙ sym room) (sym full)
        (λ other is. subst (λ (n : ℕ). q.room ≤ n) (one other (sym full ∙ is)) (subst (λ (n : ℕ). n ≤ place) (sym room) past)) s.small s.few
      where
        one : (other : ℕ) → Some place ≡ Some other → place ≡ other
        one other e = cc

    pub past_full : (q : PassFields) → q.seat.me ≡ m1 → q.seat.table_id ≡ p.seat.table_id → p.room ≤ place → IsFull v place (pass_of q)
    past_full q me table past =
        subst (λ (w : PassValue). IsFull v place w) (sym (held_value q (ended v place) (past_holds q me table past)))
        (is_full v place (subst (λ (n : ℕ). n ≤ place) (sym s.room_is) past) (s.full_is ∙ none))

    module _ (room : place < p.room) where
      in_room : place < v.desk.opening.room
      in_room = subst (λ (n : ℕ). place < n) (sym s.room_is) room

      drew : m1 ≡ (with_place (known_of v) place ∷ [], [])
      drew = drew_place p.seat.me m1 v place s.me told in_room

      pub may_wait : Waits m1 place
      may_wait = waits m1 v place drew s.numbered

      module _ (m2 : Mine) (turn : (k : Known) → m1 ≡ (k ∷ [], []) → TakesTurn k place m2) where
        pub may_answer : HasTurn m2 p.number place
        may_answer =
            let small = s.small in let here = in_room in
            gets_turn m2 v place p.number (turn (with_place (known_of v) place) drew) s.number_is (omega arith)

        module _ (q : PassFields) (table : q.seat.table_id ≡ p.seat.table_id) (number : q.number ≡ p.number) (room_stays : q.room ≡ p.room) (full : q.full ≡ p.full) (event : Event) (reply : Reply)
            (answer : (k : Known) (history : List Logged) → m2 ≡ (serving history k ∷ [], (0, Some (desk_at k.of.desk history)) ∷ []) → Answers k history p.number event reply q.seat.me) where
          taken : TakesTurn (with_place (known_of v) place) place m2
          taken = turn (with_place (known_of v) place) drew

          answered : (history' : List Logged) × (q.seat.me ≡ (known_of (after_call v history') ∷ [], [])) × IsAnswered v event reply place (after_call v history')
          answered = is_answered m2 q.seat.me v event reply place p.number (s.full_is ∙ none) s.own s.number_is taken (answer (with_place (known_of v) place) taken.0 taken.1)

          holds : Holds q (after_call v answered.0)
          holds = record { me = answered.1; table = table ∙ s.table; own = refl }

          pub answered_pass : IsOnePass q
          answered_pass =
              held_pass q (after_call v answered.0) holds s.numbered (s.number_is ∙ sym number) (s.room_is ∙ sym room_stays) (s.full_is ∙ sym full)
              (λ other is. absurd (not_some other (sym is ∙ (full ∙ none)))) s.small s.few
            where
              not_some : (other : ℕ) → Some other ≡ None → ⊥
              not_some other e = cc

          pub answered_call : IsAnswered v event reply place (pass_of q)
          answered_call = subst (λ (w : PassValue). IsAnswered v event reply place w) (sym (held_value q (after_call v answered.0) holds)) answered.2
