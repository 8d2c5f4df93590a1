-- A look at the place served keeps the rule: where it is one's turn, the slot is taken.
use Rattle.std.proofs.Common.{◌≡◌, ℕ, ◌+◌, ◌<◌, ◌≤◌, ◌==◌, ◌&&◌, min, Bool, true, false, nat_lt, nat_le, List, [], ◌∷◌, length, get_or, set, refl, sym, ap, ◌∙◌, subst, inr, arith}
use Rattle.std.specs.Prelude.{Some, MatchBool}
use Rattle.std.specs.List.{All}
use Rattle.std.proofs.lemmas.List.Elements.{All-set}
use Rattle.std.proofs.lemmas.Bool.Decides.{nat_tests}
use mathlib.Core.Option as core
use lib.ListN.{get_elem?}
use Rattle.atomic_table.specs.Table.{Me, Act, keeps, takes, Valid, homes_after, carried_after, Allows}
use Rattle.atomic_table.proofs.Lists.{set_again}
use Rattle.desk_core.specs.declared.event.Logged.{Logged}
use Rattle.desk_turns.specs.declared.rule.Opened.{Opened}
use Rattle.desk_turns.specs.declared.rule.Known.{Known}
use Rattle.desk_turns.specs.Histories.{made_by}
use Rattle.desk_turns.specs.Shared.{desk_at}
use Rattle.desk_turns.specs.Rule.{Slot, serving, count, is_some_at, is_past, total, holders, IsTurns, Turning, Fits, Serves, TakesTurn, LooksOf}
use Rattle.desk_turns.proofs.Sums.{one_set, one_le_total}
use Rattle.desk_turns.proofs.Turning.{turning, fits_at, all_one, begins_self, begins_length}

-- a place that is waited for is one of those between
is_between : (n place low high : ℕ) → n ≡ count (nat_le low place && nat_lt place high) → 1 ≤ n → (low ≤ place) × (place < high)
is_between n place low high is some = (grind (arith, nat_tests), grind (arith, nat_tests))

-- the first of the places that are waited for is taken
next_served : (place served high : ℕ) → served < high
    → count (nat_le served place && nat_lt place high) ≡ count (nat_le (served + 1) place && nat_lt place high) + count (served == place)
next_served place served high lt = grind (arith, nat_tests)

same_place : (place found : ℕ) → (place == found) ≡ true → place ≡ found
same_place place found is = grind (arith, nat_tests)

one_of : (b : Bool) → b ≡ true → 1 ≤ count b
one_of b is = let e : count b ≡ 1 = ap count is in omega arith

self_test : (x : ℕ) → (x == x) ≡ true
self_test x = grind (arith, nat_tests)

module _ (of : Opened) (ticket : ℕ) (history : List Logged) (home : core.Option Slot) (views : List (List Known)) (serves : Serves of ticket history home views) (id : ℕ) (k : Known) (at : get_elem? views id ≡ core.some (k ∷ [])) where
  fits : Fits of history k
  fits = fits_at of ticket history home views serves id k at

  pub numbered : (1 ≤ k.number) × (k.number ≤ of.seats)
  numbered =
      let some = one_le_total (λ l. count (l.number == k.number)) views id k at in
      let one = one_of (k.number == k.number) (self_test k.number) in
      let between = is_between_seats (total (λ l. count (l.number == k.number)) views) (serves.each_once k.number) (omega arith) in
      between
    where
      is_between_seats : (n : ℕ) → n ≡ count (nat_le 1 k.number && nat_le k.number of.seats) → 1 ≤ n → (1 ≤ k.number) × (k.number ≤ of.seats)
      is_between_seats n is some = (grind (arith, nat_tests), grind (arith, nat_tests))

  module _ (place : ℕ) (waits : k.waits ≡ Some place) (idle : k.holds ≡ false) (here : place ≡ length history) where
    waited_here : count (is_some_at k.waits (length history)) ≡ 1
    waited_here = ap (λ w. count (is_some_at w (length history))) waits ∙ (ap (λ (p : ℕ). count (p == length history)) here ∙ ap count (self_test (length history)))

    pub free : (holders views ≡ 0) × (length history < min ticket of.desk.room)
    free =
        let some = one_le_total (λ k. count (is_some_at k.waits (length history))) views id k at in
        let one = waited_here in
        let b = is_between (total (λ k. count (is_some_at k.waits (length history))) views) (length history) (length history + holders views) (min ticket of.desk.room) (serves.waits (length history)) (omega arith) in
        let low : length history + holders views ≤ length history = b.0 in
        (omega arith, b.1)

    pub taken : Serves of ticket history core.none (set views id (serving history k ∷ []))
    taken =
        let l = serving history k in
        let held = one_set (λ k. count k.holds) views id k l at in
        let was_idle : count k.holds ≡ 0 = ap count idle in
        let none : total (λ k. count k.holds) views ≡ 0 = free.0 in
        let lt : length history < min ticket of.desk.room = free.1 in
        let ends = one_set (λ k. count (is_past k.past)) views id k l at in
        let count_all = one_set (λ k. 1) views id k l at in
        let none_past = serves.none_past in let all_numbers = serves.all_numbers in let bound = serves.bound in
        let one : total (λ k. count k.holds) (set views id (l ∷ [])) ≡ 1 = omega arith in
        record {
          begins = serves.begins;
          legal = serves.legal;
          callers = serves.callers;
          one_holder = omega arith;
          below = omega arith;
          within = omega arith;
          waits = λ place.
              let waited = one_set (λ k. count (is_some_at k.waits place)) views id k l at in
              let gone : count (is_some_at k.waits place) ≡ count (length history == place) = ap (λ w. count (is_some_at w place)) waits ∙ ap (λ (p : ℕ). count (p == place)) here in
              let was : total (λ k. count (is_some_at k.waits place)) views ≡ count (nat_le (length history) place && nat_lt place (min ticket of.desk.room)) =
              serves.waits place ∙ ap (λ (n : ℕ). count (nat_le n place && nat_lt place (min ticket of.desk.room))) (let e : length history + total (λ k. count k.holds) views ≡ length history = omega arith in e) in
              let next = next_served place (length history) (min ticket of.desk.room) lt in
              let low : length history + 1 ≡ length history + total (λ k. count k.holds) (set views id (l ∷ [])) = omega arith in
              let sum : total (λ k. count (is_some_at k.waits place)) (set views id (l ∷ [])) ≡ count (nat_le (length history + 1) place && nat_lt place (min ticket of.desk.room)) = omega arith in
              sum ∙ ap (λ (n : ℕ). count (nat_le n place && nat_lt place (min ticket of.desk.room))) low;
          at_home = λ none. absurd (omega arith);
          out = λ some. refl;
          each_once = λ x.
              let kept = one_set (λ k. count (k.number == x)) views id k l at in
              let was = serves.each_once x in
              let same : total (λ k. count (k.number == x)) (set views id (l ∷ [])) ≡ total (λ k. count (k.number == x)) views = omega arith in
              same ∙ was;
          all_numbers = omega arith;
          none_past = λ some. none_past (omega arith);
          bound = omega arith;
          each = All-set (All (Fits of history)) views id (l ∷ []) (all_one (Fits of history) l record { of_is = fits.of_is; numbered = fits.numbered; seen = begins_self history; own = refl; all_seen = λ _. refl }) serves.each;
        }

    pub tells : TakesTurn k (length history) (serving history k ∷ [], (0, Some (desk_at k.of.desk history)) ∷ [])
    tells =
        let lt : length history < min ticket of.desk.room = free.1 in
        let room : k.of.desk.room ≡ of.desk.room = ap (λ (o : Opened). o.desk.room) fits.of_is in
        let seats : k.of.seats ≡ of.seats = ap (λ (o : Opened). o.seats) fits.of_is in
        let n = numbered in
        let low = n.0 in let high = n.1 in (
          history,
          refl,
          fits.seen,
          subst (λ (o : Opened). length o.desk.log ≤ length history) (sym fits.of_is) (begins_length of.desk.log history serves.begins),
          refl,
          omega arith,
          omega arith,
          omega arith,
          serves.legal,
          subst (λ (o : Opened). made_by k.number (length o.desk.log) history ≡ made_by k.number (length o.desk.log) k.seen) (sym fits.of_is) (sym fits.own),
        )

-- a look by a pass that waits for this place
pub looks : (of : Opened) (id : ℕ) (k : Known) (slots place : ℕ) → k.waits ≡ Some place → k.holds ≡ false → 0 < k.number
    → Allows (IsTurns of) slots id (k ∷ [], []) 1 (λ n. n) (λ found after. LooksOf (k ∷ [], []) (k ∷ []) found after)
looks of id k slots place waits idle some s kept homes at under =
    subst (λ (ws : List ℕ). Goes ws s.homes) (sym t.3) (subst (λ (hs : List (core.Option Slot)). Goes (t.0 ∷ length t.1 ∷ []) hs) (sym t.4) (go (is_some_at k.waits (length t.1)) refl))
  where
    t : Turning of s
    t = turning of s id k [] at some kept

    fits : Fits of t.1 k
    fits = fits_at of t.0 t.1 t.2 s.views t.5 id k at

    Goes : List ℕ → List (core.Option Slot) → Type 0
    Goes ws hs =
        (w : List Known) × (a : Act Slot) × Valid hs [] a
        × IsTurns of (record { words = set ws 1 (get_or ws 1 0); homes = homes_after hs [] a; views = set s.views id w })
        × LooksOf (k ∷ [], []) (k ∷ []) (get_or ws 1 0) (w, carried_after [] a)

    Tells : Bool → Me Slot (List Known) → Type 0
    Tells b after = MatchBool b (TakesTurn k (length t.1) after) (IsMe after (k ∷ [], []))
      where
        IsMe : Me Slot (List Known) → Me Slot (List Known) → Type 0
        IsMe a b = a ≡ b

    go : (b : Bool) → is_some_at k.waits (length t.1) ≡ b → Goes (t.0 ∷ length t.1 ∷ []) (t.2 ∷ [])
    go true is =
        let here : place ≡ length t.1 = same_place place (length t.1) (sym (ap (λ w. is_some_at w (length t.1)) waits) ∙ is) in
        let home : t.2 ≡ core.some (Some (desk_at k.of.desk t.1)) =
        subst (λ (o : Opened). t.2 ≡ core.some (Some (desk_at o.desk t.1))) (sym fits.of_is) (t.5.at_home (free of t.0 t.1 t.2 s.views t.5 id k at place waits idle here).0) in (
          serving t.1 k ∷ [],
          takes 0 (Some (desk_at k.of.desk t.1)),
          ap core.some home,
          inr (t.0, t.1, core.none, refl, refl, taken of t.0 t.1 t.2 s.views t.5 id k at place waits idle here),
          subst (λ b. Tells b (serving t.1 k ∷ [], (0, Some (desk_at k.of.desk t.1)) ∷ [])) (sym is) (tells of t.0 t.1 t.2 s.views t.5 id k at place waits idle here),
        )
    go false is = (
      k ∷ [],
      keeps,
      tt,
      inr (t.0, t.1, t.2, refl, refl, subst (λ (vs : List (List Known)). Serves of t.0 t.1 t.2 vs) (sym (set_again s.views id (k ∷ []) at)) t.5),
      subst (λ b. Tells b (k ∷ [], [])) (sym is) refl,
    )
