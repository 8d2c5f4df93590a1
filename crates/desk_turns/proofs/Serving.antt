-- The store that raises the place served keeps the rule: the entry joins the history, and the desk is back in its slot.
use Rattle.std.proofs.Common.{◌≡◌, ◌≢◌, ℕ, zero, suc, ◌+◌, ◌<◌, ◌≤◌, ◌==◌, ◌&&◌, min, Bool, true, false, nat_lt, nat_le, List, [], ◌∷◌, ◌++◌, map, length, drop, get_or, set, sum_by, refl, sym, ap, ◌∙◌, subst, inr, ⊎_elim, arith, length-append}
use Rattle.std.specs.Prelude.{Some}
use Rattle.std.specs.List.{All}
use Rattle.std.proofs.lemmas.List.{drop-append-le}
use Rattle.std.proofs.lemmas.List.Elements.{All-head, All-tail, All-push}
use Rattle.std.proofs.lemmas.List.Sums.{sum_by-cons}
use Rattle.std.proofs.lemmas.Bool.Decides.{nat_tests}
use mathlib.Core.Option as core
use lib.ListN.{get_elem?}
use Rattle.atomic_table.specs.Table.{Me, Act, gives, Valid, homes_after, carried_after, Allows}
use Rattle.atomic_table.proofs.Lists.{at_set, at_index}
use Rattle.desk_core.specs.declared.event.Logged.{Logged}
use Rattle.desk_core.specs.Past.{past_of}
use Rattle.desk_core.specs.Legal.{IsLegal}
use Rattle.desk_core.specs.DeskValue.{DeskValue}
use Rattle.desk_turns.specs.declared.rule.Opened.{Opened}
use Rattle.desk_turns.specs.declared.rule.Known.{Known}
use Rattle.desk_turns.specs.Shared.{desk_at}
use Rattle.desk_turns.specs.Rule.{Slot, served, count, is_some_at, is_past, total, carried_log, IsTurns, Turning, Fits, Serves}
use Rattle.desk_turns.proofs.Sums.{one_set, one_le_total, all_at, others_nothing, sum_one}
use Rattle.desk_turns.proofs.Turning.{turning, fits_at, all_one, begins_self, begins_longer, begins_length, later_by_others}

self_test : (x : ℕ) → (x == x) ≡ true
self_test x = grind (arith, nat_tests)

at_most_one : (b : Bool) → count b ≤ 1
at_most_one true = omega arith
at_most_one false = omega arith

true_is_not_false : true ≡ false → ⊥
true_is_not_false e = cc

-- what holds of each element but one, and of what is written there, holds of all
pub all_else : {A : Type 0} (P : A → Type 0) (l : List A) (i : ℕ) (a : A) → P a → ((j : ℕ) (b : A) → j ≢ i → get_elem? l j ≡ core.some b → P b) → All P (set l i a)
all_else P l i a here else k d under =
    let there : get_elem? (set l i a) k ≡ core.some (get_or (set l i a) k d) = at_index (set l i a) k (get_or (set l i a) k d) under (get_or_any (set l i a) k d (get_or (set l i a) k d) under) in
    ⊎_elim (λ (t : (k ≡ i) × (a ≡ get_or (set l i a) k d)). subst P t.1 here) (λ (t : (k ≢ i) × (get_elem? l k ≡ core.some (get_or (set l i a) k d))). else k (get_or (set l i a) k d) t.0 t.1) (at_set l i k a (get_or (set l i a) k d) there)
  where
    get_or_any : {A : Type 0} (l : List A) (k : ℕ) (d e : A) → k < length l → get_or l k d ≡ get_or l k e
    get_or_any [] k d e under = absurd (omega arith)
    get_or_any (x ∷ xs) zero d e under = refl
    get_or_any (x ∷ xs) (suc k) d e under = get_or_any xs k d e (omega arith)

module _ (of : Opened) (ticket : ℕ) (history : List Logged) (home : core.Option Slot) (views : List (List Known)) (serves : Serves of ticket history home views) (id : ℕ) (k : Known) (at : get_elem? views id ≡ core.some (k ∷ [])) (holds : k.holds ≡ true) (e : Logged) (by : e.caller ≡ k.number) where
  fits : Fits of history k
  fits = fits_at of ticket history home views serves id k at

  abbrev longer : List Logged
  longer = history ++ e ∷ []

  opened : length of.desk.log ≤ length history
  opened = begins_length of.desk.log history serves.begins

  holder : count k.holds ≡ 1
  holder = ap count holds

  keeper : count (k.number == k.number) ≡ 1
  keeper = ap count (self_test k.number)

  fits_longer : (q : Known) → Fits of history q → count (q.number == k.number) ≡ 0 → count q.holds ≡ 0 → Fits of longer q
  fits_longer q f another idle =
      let apart : e.caller ≢ q.number = λ same. none_self (by_same (sym same ∙ by) another) in
      record {
        of_is = f.of_is;
        numbered = f.numbered;
        seen = begins_longer q.seen history (e ∷ []) f.seen;
        own = f.own ∙ sym (later_by_others q.number (length of.desk.log) history e opened apart);
        all_seen = λ held. absurd (not_held held);
      }
    where
      by_same : q.number ≡ k.number → count (q.number == k.number) ≡ 0 → count (k.number == k.number) ≡ 0
      by_same same none = ap (λ (n : ℕ). count (n == k.number)) (sym same) ∙ none

      none_self : count (k.number == k.number) ≡ 0 → ⊥
      none_self none = absurd (omega (arith, keeper))

      not_held : q.holds ≡ true → ⊥
      not_held held = let one : count q.holds ≡ 1 = ap count held in absurd (omega arith)

  others_fit : (ks : List Known) → All (Fits of history) ks → sum_by (λ q. count (q.number == k.number)) ks ≡ 0 → sum_by (λ q. count q.holds) ks ≡ 0 → All (Fits of longer) ks
  others_fit [] all another idle place d under = absurd (omega arith)
  others_fit (q ∷ qs) all another idle zero d under =
      let c = sum_by-cons (λ (q : Known). count (q.number == k.number)) q qs in
      let h = sum_by-cons (λ (q : Known). count q.holds) q qs in
      fits_longer q (All-head (Fits of history) q qs all) (omega arith) (omega arith)
  others_fit (q ∷ qs) all another idle (suc place) d under =
      let c = sum_by-cons (λ (q : Known). count (q.number == k.number)) q qs in
      let h = sum_by-cons (λ (q : Known). count q.holds) q qs in
      others_fit qs (All-tail (Fits of history) q qs all) (omega arith) (omega arith) place d (omega arith)

  others : (j : ℕ) (ks : List Known) → j ≢ id → get_elem? views j ≡ core.some ks → All (Fits of longer) ks
  others j ks apart there =
      let kept = serves.each_once k.number in
      let once = at_most_one (nat_le 1 k.number && nat_le k.number of.seats) in
      let one = keeper in let h = holder in let held = serves.one_holder in
      others_fit ks (all_at (All (Fits of history)) views j ks serves.each there)
      (others_nothing (λ ks. sum_by (λ q. count (q.number == k.number)) ks) views id j (k ∷ []) ks at there apart (omega (arith, sum_one (λ q. count (q.number == k.number)) k)))
      (others_nothing (λ ks. sum_by (λ q. count q.holds) ks) views id j (k ∷ []) ks at there apart (omega (arith, sum_one (λ q. count q.holds) k)))

  pub raised : IsLegal (past_of longer) → (1 ≤ k.number) × (k.number ≤ of.seats) → Serves of ticket longer (core.some (Some (desk_at of.desk longer))) (set views id (served longer k ∷ []))
  raised legal numbered =
      let l = served longer k in
      let held = one_set (λ k. count k.holds) views id k l at in
      let one = holder in
      let some = one_le_total (λ k. count k.holds) views id k at in
      let most = serves.one_holder in
      let ends = one_set (λ k. count (is_past k.past)) views id k l at in
      let count_all = one_set (λ k. 1) views id k l at in
      let below = serves.below in let within = serves.within in
      let none_past = serves.none_past in let all_numbers = serves.all_numbers in let bound = serves.bound in
      let len : length longer ≡ length history + 1 = length-append history (e ∷ []) in
      let none : total (λ k. count k.holds) (set views id (l ∷ [])) ≡ 0 = omega arith in
      record {
        begins = begins_longer of.desk.log history (e ∷ []) serves.begins;
        legal = legal;
        callers = subst (All (λ c. (1 ≤ c.caller) × (c.caller ≤ of.seats))) (sym (drop-append-le (length of.desk.log) history (e ∷ []) opened))
            (All-push (λ (c : Logged). (1 ≤ c.caller) × (c.caller ≤ of.seats)) (drop (length of.desk.log) history) e serves.callers (subst (λ (n : ℕ). (1 ≤ n) × (n ≤ of.seats)) (sym by) numbered));
        one_holder = omega arith;
        below = omega arith;
        within = omega arith;
        waits = λ place.
            let waited = one_set (λ k. count (is_some_at k.waits place)) views id k l at in
            let same : total (λ k. count (is_some_at k.waits place)) (set views id (l ∷ [])) ≡ total (λ k. count (is_some_at k.waits place)) views = omega arith in
            let low : length history + total (λ k. count k.holds) views ≡ length longer + total (λ k. count k.holds) (set views id (l ∷ [])) = omega arith in
            same ∙ (serves.waits place ∙ ap (λ (n : ℕ). count (nat_le n place && nat_lt place (min ticket of.desk.room))) low);
        at_home = λ none. refl;
        out = λ some. absurd (omega arith);
        each_once = λ x.
            let kept = one_set (λ k. count (k.number == x)) views id k l at in
            let was = serves.each_once x in
            let same : total (λ k. count (k.number == x)) (set views id (l ∷ [])) ≡ total (λ k. count (k.number == x)) views = omega arith in
            same ∙ was;
        all_numbers = omega arith;
        none_past = λ some. none_past (omega arith);
        bound = omega arith;
        each = all_else (All (Fits of longer)) views id (l ∷ [])
            (all_one (Fits of longer) l record { of_is = fits.of_is; numbered = fits.numbered; seen = begins_self longer; own = refl; all_seen = λ held. absurd (true_is_not_false (sym held)) })
            others;
      }

-- the store by the pass that has the turn, with the desk one entry later
pub stores : (of : Opened) (id : ℕ) (k : Known) (slots place : ℕ) (desk : DeskValue) (e : Logged) → k.holds ≡ true → (1 ≤ k.number) × (k.number ≤ k.of.seats) → length k.seen ≡ place
    → desk ≡ desk_at k.of.desk (k.seen ++ e ∷ []) → e.caller ≡ k.number → IsLegal (past_of (k.seen ++ e ∷ []))
    → Allows (IsTurns of) slots id (k ∷ [], (0, Some desk) ∷ []) 1 (λ _. place + 1) (λ found after. after ≡ (map (served (carried_log ((0, Some desk) ∷ []))) (k ∷ []), []))
stores of id k slots place desk e holds numbered place_is desk_is by legal s kept homes at under =
    subst (λ (d : DeskValue). Whole d) (sym desk_is)
    (subst (λ (ws : List ℕ). Goes (desk_at k.of.desk (k.seen ++ e ∷ [])) ws s.homes) (sym t.3) (subst (λ (hs : List (core.Option Slot)). Goes (desk_at k.of.desk (k.seen ++ e ∷ [])) (t.0 ∷ length t.1 ∷ []) hs) (sym t.4) go))
  where
    some : 0 < k.number
    some = let n = numbered.0 in omega arith

    t : Turning of s
    t = turning of s id k [] at some kept

    fits : Fits of t.1 k
    fits = fits_at of t.0 t.1 t.2 s.views t.5 id k at

    IsMe : Me Slot (List Known) → Me Slot (List Known) → Type 0
    IsMe a b = a ≡ b

    Goes : DeskValue → List ℕ → List (core.Option Slot) → Type 0
    Goes d ws hs =
        (w : List Known) × (a : Act Slot) × Valid hs ((0, Some d) ∷ []) a
        × IsTurns of (record { words = set ws 1 (place + 1); homes = homes_after hs ((0, Some d) ∷ []) a; views = set s.views id w })
        × IsMe (w, carried_after ((0, Some d) ∷ []) a) (map (served (carried_log ((0, Some d) ∷ []))) (k ∷ []), [])

    Whole : DeskValue → Type 0
    Whole d = Goes d s.words s.homes

    longer : List Logged
    longer = t.1 ++ e ∷ []

    all_seen : k.seen ≡ t.1
    all_seen = fits.all_seen holds

    seats : (1 ≤ k.number) × (k.number ≤ of.seats)
    seats = subst (λ (o : Opened). (1 ≤ k.number) × (k.number ≤ o.seats)) fits.of_is numbered

    after : Serves of t.0 longer (core.some (Some (desk_at of.desk longer))) (set s.views id (served longer k ∷ []))
    after = raised of t.0 t.1 t.2 s.views t.5 id k at holds e by (subst (λ (h : List Logged). IsLegal (past_of (h ++ e ∷ []))) all_seen legal) seats

    raised_words : t.0 ∷ (place + 1) ∷ [] ≡ t.0 ∷ length longer ∷ []
    raised_words =
        let same : length k.seen ≡ length t.1 = ap length all_seen in
        let len : length longer ≡ length t.1 + 1 = length-append t.1 (e ∷ []) in
        let p : place + 1 ≡ length longer = omega (arith, place_is) in
        ap (λ (n : ℕ). t.0 ∷ n ∷ []) p

    Put : Opened → List Logged → Type 0
    Put o h = Goes (desk_at o.desk (h ++ e ∷ [])) (t.0 ∷ length t.1 ∷ []) (t.2 ∷ [])

    go : Goes (desk_at k.of.desk (k.seen ++ e ∷ [])) (t.0 ∷ length t.1 ∷ []) (t.2 ∷ [])
    go = subst (λ (o : Opened). Put o k.seen) (sym fits.of_is) (subst (λ (h : List Logged). Put of h) (sym all_seen) (
      served longer k ∷ [],
      gives,
      tt,
      inr (t.0, longer, core.some (Some (desk_at of.desk longer)), raised_words, refl, after),
      refl,
    ))
