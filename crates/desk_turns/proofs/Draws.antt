-- A draw keeps the rule: of a place below the room, and of one past it.
use Rattle.std.proofs.Common.{◌≡◌, ℕ, ◌+◌, ◌%◌, ◌^◌, ◌<◌, ◌≤◌, ◌==◌, ◌&&◌, min, Bool, true, false, cond, nat_lt, nat_le, List, [], ◌∷◌, map, length, get_or, set, refl, sym, ap, ◌∙◌, subst, inr, arith}
use Rattle.std.specs.Prelude.{Some, None}
use Rattle.std.specs.List.{All}
use Rattle.std.proofs.lemmas.List.Elements.{All-set}
use Rattle.std.proofs.lemmas.Bool.Decides.{nat_tests}
use Rattle.std.proofs.Math.Nat.{mod-eq_of_lt}
use mathlib.Core.Option as core
use lib.ListN.{get_elem?}
use Rattle.atomic_table.specs.Table.{Me, Act, keeps, Valid, homes_after, carried_after, Allows}
use Rattle.desk_core.specs.declared.event.Logged.{Logged}
use Rattle.desk_turns.specs.declared.rule.Opened.{Opened}
use Rattle.desk_turns.specs.declared.rule.Known.{Known}
use Rattle.desk_turns.specs.Shared.{most_seats, most_room}
use Rattle.desk_turns.specs.Rule.{Slot, drawn, count, is_some_at, is_past, total, IsTurns, Turning, Fits, Serves}
use Rattle.desk_turns.proofs.Sums.{one_set, total_le}
use Rattle.desk_turns.proofs.Turning.{turning, fits_at, all_one}

abbrev pub with_place : Known → ℕ → Known
with_place k place = record k { waits = Some place }

abbrev pub with_end : Known → ℕ → Known
with_end k place = record k { past = Some place }

-- the place at the word joins those that are waited for
next_waits : (place low ticket room : ℕ) → low ≤ ticket → ticket < room
    → count (nat_le low place && nat_lt place (min ticket room)) + count (ticket == place) ≡ count (nat_le low place && nat_lt place (min (ticket + 1) room))
next_waits place low ticket room le lt = grind (arith, nat_tests)

module _ (of : Opened) (ticket : ℕ) (history : List Logged) (home : core.Option Slot) (views : List (List Known)) (serves : Serves of ticket history home views) (id : ℕ) (k : Known) (at : get_elem? views id ≡ core.some (k ∷ [])) where
  fits : Fits of history k
  fits = fits_at of ticket history home views serves id k at

  module _ (waits_none : k.waits ≡ None) where
    unwaited : (place : ℕ) → count (is_some_at k.waits place) ≡ 0
    unwaited place = ap (λ w. count (is_some_at w place)) waits_none

    pub below_room : ticket < of.desk.room → Serves of (ticket + 1) history home (set views id (with_place k ticket ∷ []))
    below_room room =
        let l = with_place k ticket in
        let held = one_set (λ k. count k.holds) views id k l at in
        let ends = one_set (λ k. count (is_past k.past)) views id k l at in
        let count_all = one_set (λ k. 1) views id k l at in
        let below = serves.below in let within = serves.within in let one = serves.one_holder in
        let none_past = serves.none_past in let all_numbers = serves.all_numbers in
        record {
          begins = serves.begins;
          legal = serves.legal;
          callers = serves.callers;
          one_holder = omega arith;
          below = omega arith;
          within = omega arith;
          waits = λ place.
              let waited = one_set (λ k. count (is_some_at k.waits place)) views id k l at in
              let was = serves.waits place in
              let none = unwaited place in
              let same : length history + total (λ k. count k.holds) (set views id (l ∷ [])) ≡ length history + total (λ k. count k.holds) views = omega arith in
              let next = next_waits place (length history + total (λ k. count k.holds) views) ticket of.desk.room below room in
              let sum : total (λ k. count (is_some_at k.waits place)) (set views id (l ∷ [])) ≡ count (nat_le (length history + total (λ k. count k.holds) views) place && nat_lt place (min ticket of.desk.room)) + count (ticket == place) = omega arith in
              sum ∙ (next ∙ ap (λ (n : ℕ). count (nat_le n place && nat_lt place (min (ticket + 1) of.desk.room))) (sym same));
          at_home = λ none. serves.at_home (omega arith);
          out = λ some. serves.out (omega arith);
          each_once = λ x.
              let kept = one_set (λ k. count (k.number == x)) views id k l at in
              let was = serves.each_once x in
              let same : total (λ k. count (k.number == x)) (set views id (l ∷ [])) ≡ total (λ k. count (k.number == x)) views = omega arith in
              same ∙ was;
          all_numbers = omega arith;
          none_past = λ some. omega arith;
          bound = omega arith;
          each = All-set (All (Fits of history)) views id (l ∷ []) (all_one (Fits of history) l record { of_is = fits.of_is; numbered = fits.numbered; seen = fits.seen; own = fits.own; all_seen = fits.all_seen }) serves.each;
        }

  module _ (past_none : k.past ≡ None) where
    unended : count (is_past k.past) ≡ 0
    unended = ap (λ w. count (is_past w)) past_none

    pub past_room : of.desk.room ≤ ticket → Serves of (ticket + 1) history home (set views id (with_end k ticket ∷ []))
    past_room past =
        let l = with_end k ticket in
        let held = one_set (λ k. count k.holds) views id k l at in
        let ends = one_set (λ k. count (is_past k.past)) views id k l at in
        let none = unended in
        let count_all = one_set (λ k. 1) views id k l at in
        let below = serves.below in let within = serves.within in let one = serves.one_holder in
        let all_numbers = serves.all_numbers in let bound = serves.bound in
        let room : min (ticket + 1) of.desk.room ≡ min ticket of.desk.room = omega arith in
        record {
          begins = serves.begins;
          legal = serves.legal;
          callers = serves.callers;
          one_holder = omega arith;
          below = omega arith;
          within = omega arith;
          waits = λ place.
              let waited = one_set (λ k. count (is_some_at k.waits place)) views id k l at in
              let was = serves.waits place in
              let same : length history + total (λ k. count k.holds) (set views id (l ∷ [])) ≡ length history + total (λ k. count k.holds) views = omega arith in
              let sum : total (λ k. count (is_some_at k.waits place)) (set views id (l ∷ [])) ≡ total (λ k. count (is_some_at k.waits place)) views = omega arith in
              sum ∙ (was
              ∙ (ap (λ (n : ℕ). count (nat_le n place && nat_lt place (min ticket of.desk.room))) (sym same)
              ∙ ap (λ (m : ℕ). count (nat_le (length history + total (λ k. count k.holds) (set views id (l ∷ []))) place && nat_lt place m)) (sym room)));
          at_home = λ none. serves.at_home (omega arith);
          out = λ some. serves.out (omega arith);
          each_once = λ x.
              let kept = one_set (λ k. count (k.number == x)) views id k l at in
              let was = serves.each_once x in
              let same : total (λ k. count (k.number == x)) (set views id (l ∷ [])) ≡ total (λ k. count (k.number == x)) views = omega arith in
              same ∙ was;
          all_numbers = omega arith;
          none_past = λ some. omega arith;
          bound = omega arith;
          each = All-set (All (Fits of history)) views id (l ∷ []) (all_one (Fits of history) l record { of_is = fits.of_is; numbered = fits.numbered; seen = fits.seen; own = fits.own; all_seen = fits.all_seen }) serves.each;
        }

  -- the word stays far below its limit
  pub no_wrap : k.of.desk.room ≤ most_room → k.of.seats ≤ most_seats → (ticket + 1) % 2 ^ 64 ≡ ticket + 1
  no_wrap small few =
      let ends = total_le (λ k. count (is_past k.past)) (λ k. 1) at_most_one views in
      let all = serves.all_numbers in let bound = serves.bound in
      let room : k.of.desk.room ≡ of.desk.room = ap (λ (o : Opened). o.desk.room) fits.of_is in
      let seats : k.of.seats ≡ of.seats = ap (λ (o : Opened). o.seats) fits.of_is in
      let short : ticket + 1 < 2 ^ 64 = omega arith in
      mod-eq_of_lt short
    where
      at_most_one : (k : Known) → count (is_past k.past) ≤ 1
      at_most_one k = le (is_past k.past)
        where
          le : (b : Bool) → count b ≤ 1
          le true = omega arith
          le false = omega arith

-- a draw by a pass that neither waits nor has drawn past the room
pub draws : (of : Opened) (id : ℕ) (k : Known) (slots : ℕ) → k.waits ≡ None → k.past ≡ None → 0 < k.number → k.of.desk.room ≤ most_room → k.of.seats ≤ most_seats
    → Allows (IsTurns of) slots id (k ∷ [], []) 0 (λ n. (n + 1) % 2 ^ 64) (λ found after. after ≡ (map (drawn found) (k ∷ []), []))
draws of id k slots waits_none past_none numbered small few s kept homes at under =
    subst (λ (ws : List ℕ). Goes ws s.homes) (sym t.3) (subst (λ (hs : List (core.Option Slot)). Goes (t.0 ∷ length t.1 ∷ []) hs) (sym t.4) (go (nat_lt t.0 of.desk.room) refl))
  where
    t : Turning of s
    t = turning of s id k [] at numbered kept

    fits : Fits of t.1 k
    fits = fits_at of t.0 t.1 t.2 s.views t.5 id k at

    room_is : k.of.desk.room ≡ of.desk.room
    room_is = ap (λ (o : Opened). o.desk.room) fits.of_is

    IsMe : Me Slot (List Known) → Me Slot (List Known) → Type 0
    IsMe after is = after ≡ is

    Goes : List ℕ → List (core.Option Slot) → Type 0
    Goes ws hs =
        (w : List Known) × (a : Act Slot) × Valid hs [] a
        × IsTurns of (record { words = set ws 0 ((get_or ws 0 0 + 1) % 2 ^ 64); homes = homes_after hs [] a; views = set s.views id w })
        × IsMe (w, carried_after [] a) (map (drawn (get_or ws 0 0)) (k ∷ []), [])

    me_of : Known → Me Slot (List Known)
    me_of l = (l ∷ [], [])

    wrap : ((t.0 + 1) % 2 ^ 64) ∷ length t.1 ∷ [] ≡ (t.0 + 1) ∷ length t.1 ∷ []
    wrap = ap (λ (n : ℕ). n ∷ length t.1 ∷ []) (no_wrap of t.0 t.1 t.2 s.views t.5 id k at small few)

    go : (b : Bool) → nat_lt t.0 of.desk.room ≡ b → Goes (t.0 ∷ length t.1 ∷ []) (t.2 ∷ [])
    go true is =
        let room : t.0 < of.desk.room = grind (arith, nat_tests) in
        let test : nat_lt t.0 k.of.desk.room ≡ true = ap (λ (n : ℕ). nat_lt t.0 n) room_is ∙ is in
        let new : drawn t.0 k ≡ with_place k t.0 = ap (λ b. cond b (with_place k t.0) (with_end k t.0)) test in (
          with_place k t.0 ∷ [],
          keeps,
          tt,
          inr (t.0 + 1, t.1, t.2, wrap, refl, below_room of t.0 t.1 t.2 s.views t.5 id k at waits_none room),
          ap me_of (sym new),
        )
    go false is =
        let past : of.desk.room ≤ t.0 = grind (arith, nat_tests) in
        let test : nat_lt t.0 k.of.desk.room ≡ false = ap (λ (n : ℕ). nat_lt t.0 n) room_is ∙ is in
        let new : drawn t.0 k ≡ with_end k t.0 = ap (λ b. cond b (with_place k t.0) (with_end k t.0)) test in (
          with_end k t.0 ∷ [],
          keeps,
          tt,
          inr (t.0 + 1, t.1, t.2, wrap, refl, past_room of t.0 t.1 t.2 s.views t.5 id k at past_none past),
          ap me_of (sym new),
        )
