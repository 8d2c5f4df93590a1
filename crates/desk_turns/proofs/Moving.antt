-- Passes that are dealt out and handed back keep the rule, since what is known only moves between views.
use Rattle.std.proofs.Common.{◌≡◌, ◌≢◌, ℕ, ◌+◌, ◌<◌, ◌==◌, ◌&&◌, min, nat_lt, nat_le, List, [], ◌∷◌, ◌++◌, length, set, sym, ap, ◌∙◌, inr, ⊎_elim, arith}
use Rattle.std.specs.List.{All}
use Rattle.std.proofs.lemmas.List.Elements.{All-set, All-push, All-append, All-head, All-tail}
use Rattle.std.proofs.lemmas.List.Sums.{sum_by-cons, sum_by-append}
use mathlib.Core.Option as core
use lib.ListN.{get_elem?}
use Rattle.atomic_table.specs.Table.{Splits, Joins}
use Rattle.atomic_table.proofs.Lists.{at_set}
use Rattle.desk_core.specs.declared.event.Logged.{Logged}
use Rattle.desk_turns.specs.declared.rule.Opened.{Opened}
use Rattle.desk_turns.specs.declared.rule.Known.{Known}
use Rattle.desk_turns.specs.Rule.{Slot, count, is_some_at, is_past, total, IsTurns, Turning, Fits, Serves}
use Rattle.desk_turns.proofs.Sums.{total_set, total_push, sum_one, all_at}
use Rattle.desk_turns.proofs.Turning.{turning, all_one}

-- views over which each sum is the same keep what is true of the words and the slot
pub moved : (of : Opened) (ticket : ℕ) (history : List Logged) (home : core.Option Slot) (views next : List (List Known)) → Serves of ticket history home views
    → ((f : Known → ℕ) → total f next ≡ total f views) → All (All (Fits of history)) next → Serves of ticket history home next
moved of ticket history home views next serves same each =
    let held = same (λ k. count k.holds) in
    let ends = same (λ k. count (is_past k.past)) in
    let all = same (λ k. 1) in
    let one = serves.one_holder in let below = serves.below in let within = serves.within in
    let none_past = serves.none_past in let all_numbers = serves.all_numbers in let bound = serves.bound in
    record {
      begins = serves.begins;
      legal = serves.legal;
      callers = serves.callers;
      one_holder = omega arith;
      below = omega arith;
      within = omega arith;
      waits = λ place.
          same (λ k. count (is_some_at k.waits place))
          ∙ (serves.waits place ∙ ap (λ (n : ℕ). count (nat_le (length history + n) place && nat_lt place (min ticket of.desk.room))) (sym held));
      at_home = λ none. serves.at_home (omega arith);
      out = λ some. serves.out (omega arith);
      each_once = λ x. same (λ k. count (k.number == x)) ∙ serves.each_once x;
      all_numbers = omega arith;
      none_past = λ some. none_past (omega arith);
      bound = omega arith;
      each = each;
    }

all_none : (P : Known → Type 0) → All P []
all_none P k d under = absurd (omega arith)

-- a list of several deals out its first
pub deals : (of : Opened) (id : ℕ) (k : Known) (ks : List Known) → 0 < k.number → Splits {S = Slot} (IsTurns of) id (k ∷ ks) ks (k ∷ [])
deals of id k ks numbered s kept at = inr (t.0, t.1, t.2, t.3, t.4, moved of t.0 t.1 t.2 s.views (set s.views id ks ++ (k ∷ []) ∷ []) t.5 same each)
  where
    t : Turning of s
    t = turning of s id k ks at numbered kept

    here : All (Fits of t.1) (k ∷ ks)
    here = all_at (All (Fits of t.1)) s.views id (k ∷ ks) t.5.each at

    same : (f : Known → ℕ) → total f (set s.views id ks ++ (k ∷ []) ∷ []) ≡ total f s.views
    same f =
        let push = total_push f (set s.views id ks) (k ∷ []) in
        let change = total_set f s.views id (k ∷ ks) ks at in
        omega (arith, sum_one f k, sum_by-cons f k ks)

    each : All (All (Fits of t.1)) (set s.views id ks ++ (k ∷ []) ∷ [])
    each = All-push (All (Fits of t.1)) (set s.views id ks) (k ∷ [])
        (All-set (All (Fits of t.1)) s.views id ks (All-tail (Fits of t.1) k ks here) t.5.each)
        (all_one (Fits of t.1) k (All-head (Fits of t.1) k ks here))

-- a list takes in another
pub gathers : (of : Opened) (id : ℕ) (k : Known) (ks : List Known) (other : ℕ) (u : List Known) → 0 < k.number → Joins {S = Slot} (IsTurns of) id (k ∷ ks) other u ((k ∷ ks) ++ u) []
gathers of id k ks other u numbered s kept at apart there = inr (t.0, t.1, t.2, t.3, t.4, moved of t.0 t.1 t.2 s.views (set (set s.views id both) other []) t.5 same each)
  where
    both : List Known
    both = (k ∷ ks) ++ u

    t : Turning of s
    t = turning of s id k ks at numbered kept

    was_there : get_elem? s.views other ≡ core.some u
    was_there = ⊎_elim (λ (t : (other ≡ id) × (both ≡ u)). absurd (apart t.0)) (λ (t : (other ≢ id) × (get_elem? s.views other ≡ core.some u)). t.1) (at_set s.views id other both u there)

    same : (f : Known → ℕ) → total f (set (set s.views id both) other []) ≡ total f s.views
    same f =
        let first = total_set f s.views id (k ∷ ks) both at in
        let second = total_set f (set s.views id both) other u [] there in
        omega (arith, sum_by-append f (k ∷ ks) u)

    each : All (All (Fits of t.1)) (set (set s.views id both) other [])
    each = All-set (All (Fits of t.1)) (set s.views id both) other [] (all_none (Fits of t.1))
        (All-set (All (Fits of t.1)) s.views id both
        (All-append (Fits of t.1) (k ∷ ks) u (all_at (All (Fits of t.1)) s.views id (k ∷ ks) t.5.each at) (all_at (All (Fits of t.1)) s.views other u t.5.each was_there))
        t.5.each)
