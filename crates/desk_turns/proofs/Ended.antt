-- What the desk has once all passes are one seat and the table is closed.
use Rattle.std.proofs.Common.{◌≡◌, ℕ, zero, suc, ◌<◌, ◌==◌, List, [], ◌∷◌, ◌++◌, map, length, sum_by, refl, sym, ap, ◌∙◌, subst, arith}
use Rattle.std.specs.Prelude.{Some, None}
use Rattle.std.specs.List.{All}
use Rattle.std.proofs.lemmas.List.Sums.{sum_by-cons, sum_by_push}
use Rattle.std.proofs.lemmas.List.Elements.{All-head, All-tail, All-push}
use mathlib.Core.Option as core
use mathlib.Core.Option.{some-injective}
use lib.ListN.{get_elem?}
use Rattle.atomic_table.specs.Seated.{TableId}
use Rattle.atomic_table.specs.Table.{Me, Final, Seen}
use Rattle.desk_core.specs.declared.event.Logged.{Logged}
use Rattle.desk_core.specs.DeskValue.{DeskValue}
use Rattle.desk_turns.specs.declared.rule.Opened.{Opened}
use Rattle.desk_turns.specs.declared.rule.Known.{Known}
use Rattle.desk_turns.specs.Histories.{Begins, made_by}
use Rattle.desk_turns.specs.Shared.{desk_at, PassValue, IsClosed}
use Rattle.desk_turns.specs.Passes.{desk_id, known_of, HasOwnCalls, AreAll}
use Rattle.desk_turns.specs.Rule.{Slot, count, total, IsTurns, Turning, Fits, Serves}
use Rattle.desk_turns.proofs.Sums.{alone, all_at}
use Rattle.desk_turns.proofs.Turning.{turning}

sum_known : (f : Known → ℕ) (ps : List PassValue) → sum_by f (map known_of ps) ≡ sum_by (λ p. f (known_of p)) ps
sum_known f [] = refl
sum_known f (p ∷ ps) =
    let rest = sum_known f ps in
    omega (arith, sum_by-cons f (known_of p) (map known_of ps), sum_by-cons (λ (q : PassValue). f (known_of q)) p ps)

sum_nothing : (ps : List PassValue) → sum_by (λ (p : PassValue). 0) ps ≡ 0
sum_nothing [] = refl
sum_nothing (p ∷ ps) = let rest = sum_nothing ps in omega (arith, sum_by-cons (λ (q : PassValue). 0) p ps)

sum_length : (ps : List PassValue) → sum_by (λ (p : PassValue). 1) ps ≡ length ps
sum_length [] = refl
sum_length (p ∷ ps) = let rest = sum_length ps in omega (arith, sum_by-cons (λ (q : PassValue). 1) p ps)

all_known : (P : Known → Type 0) (Q : PassValue → Type 0) → ((p : PassValue) → P (known_of p) → Q p) → (ps : List PassValue) → All P (map known_of ps) → All Q ps
all_known P Q each [] all i d under = absurd (omega arith)
all_known P Q each (p ∷ ps) all zero d under = each p (All-head P (known_of p) (map known_of ps) all)
all_known P Q each (p ∷ ps) all (suc i) d under = all_known P Q each ps (All-tail P (known_of p) (map known_of ps) all) i d (omega arith)

both_all : (P Q R : PassValue → Type 0) → ((p : PassValue) → P p → Q p → R p) → (ps : List PassValue) → All P ps → All Q ps → All R ps
both_all P Q R each ps p q i d under = each _ (p i d under) (q i d under)

module _ (table : TableId) (of : Opened) (ticket : ℕ) (history : List Logged) (home : core.Option Slot) (views : List (List Known)) (serves : Serves of ticket history home views)
    (id : ℕ) (ps : List PassValue) (at : get_elem? views id ≡ core.some (map known_of ps)) (whole : length ps ≡ of.seats) where
  all_here : (f : Known → ℕ) → total f views ≡ sum_by (λ p. f (known_of p)) ps
  all_here f =
      alone f views id (map known_of ps) at (serves.all_numbers ∙ (sym whole ∙ (sym (sum_length ps) ∙ sym (sum_known (λ k. 1) ps))))
      ∙ sum_known f ps

  pub at_home : home ≡ core.some (Some (desk_at of.desk history))
  at_home = serves.at_home (all_here (λ k. count k.holds) ∙ sum_nothing ps)

  fits : All (Fits of history) (map known_of ps)
  fits = all_at (All (Fits of history)) views id (map known_of ps) serves.each at

  pub closed : All HasOwnCalls ps → IsClosed (desk_id table of) ps (desk_at of.desk history)
  closed seen = record {
    stays = refl;
    begins = serves.begins;
    legal = serves.legal;
    seen = all_known (Fits of history) (λ p. Begins p.seen history) (λ p f. f.seen) ps fits;
    calls = both_all (λ p. made_by p.number (length p.desk.opening.log) p.seen ≡ made_by p.number (length of.desk.log) history) HasOwnCalls (λ p. made_by p.number (length of.desk.log) history ≡ p.calls)
        (λ p own is. sym (is ∙ own)) ps
        (all_known (Fits of history) (λ p. made_by p.number (length p.desk.opening.log) p.seen ≡ made_by p.number (length of.desk.log) history)
        (λ p f. ap (λ (o : Opened). made_by p.number (length o.desk.log) p.seen) f.of_is ∙ f.own) ps fits)
        seen;
    callers = serves.callers;
    numbers = λ x. sym (all_here (λ k. count (k.number == x))) ∙ serves.each_once x;
  }

-- the passes as they were given, the last of which stands first among the joined
pub last_first : (desk : _) (last : PassValue) (others : List PassValue) (after : DeskValue) → IsClosed desk (last ∷ others) after → IsClosed desk (others ++ last ∷ []) after
last_first desk last others after c = record {
  stays = c.stays;
  begins = c.begins;
  legal = c.legal;
  seen = turned (λ p. Begins p.seen after.log) c.seen;
  calls = turned (λ p. made_by p.number (length desk.opening.log) after.log ≡ p.calls) c.calls;
  callers = c.callers;
  numbers = λ x.
      let f : PassValue → ℕ = λ p. count (p.number == x) in
      let same : sum_by f (others ++ last ∷ []) ≡ sum_by f (last ∷ others) = omega (arith, sum_by_push f others last, sum_by-cons f last others) in
      same ∙ c.numbers x;
}
  where
    turned : (P : PassValue → Type 0) → All P (last ∷ others) → All P (others ++ last ∷ [])
    turned P all = All-push P others last (All-tail P last others all) (All-head P last others all)

-- the table once it is closed, where the joined seat was last seen
pub at_end : (table : TableId) (of : Opened) (words : List ℕ) (slots : List Slot) (id : ℕ) (p : PassValue) (ps : List PassValue)
    → Final (Seen (IsTurns of) id (map known_of (p ∷ ps))) words slots → 0 < p.number → length (p ∷ ps) ≡ of.seats → All HasOwnCalls (p ∷ ps)
    → (desk : DeskValue) × (get_elem? slots 0 ≡ core.some (Some desk)) × IsClosed (desk_id table of) (p ∷ ps) desk
at_end table of words slots id p ps last numbered whole seen =
    let s = last.0 in
    let t : Turning of s = turning of s id (known_of p) (map known_of ps) last.1.1 numbered last.1.0 in
    let home = at_home table of t.0 t.1 t.2 s.views t.5 id (p ∷ ps) last.1.1 whole in
    let there : get_elem? s.homes 0 ≡ core.some (core.some (Some (desk_at of.desk t.1))) = ap (λ (hs : List (core.Option Slot)). get_elem? hs 0) t.4 ∙ ap core.some home in (
      desk_at of.desk t.1,
      last.4 0 (Some (desk_at of.desk t.1)) there,
      closed table of t.0 t.1 t.2 s.views t.5 id (p ∷ ps) last.1.1 whole seen,
    )

-- what was taken out of the slot then
pub found_there : (table : TableId) (of : Opened) (words : List ℕ) (slots : List Slot) (id : ℕ) (m : Me Slot (List Known)) (p : PassValue) (ps : List PassValue) (found : Slot)
    → Final (Seen (IsTurns of) id m.0) words slots → m ≡ (map known_of (p ∷ ps), []) → AreAll p ps of → get_elem? slots 0 ≡ core.some found
    → (desk : DeskValue) × (found ≡ Some desk) × IsClosed (desk_id table of) (p ∷ ps) desk
found_there table of words slots id m p ps found last me all there =
    let end = at_end table of words slots id p ps (subst (λ (n : Me Slot (List Known)). Final (Seen (IsTurns of) id n.0) words slots) me last) all.0 all.1 all.2 in
    (end.0, some-injective found (Some end.0) (sym there ∙ end.1), end.2)

pub not_vacant : (found : Slot) (desk : DeskValue) → found ≡ Some desk → found ≡ None → ⊥
not_vacant found desk some none = is_some (sym some ∙ none)
  where
    is_some : Some desk ≡ None → ⊥
    is_some e = cc

pub same_desk : (found : Slot) (a b : DeskValue) → found ≡ Some a → found ≡ Some b → a ≡ b
same_desk found a b e f = ap desk_of (sym e ∙ f)
  where
    desk_of : Slot → DeskValue
    desk_of None = a
    desk_of (Some d) = d
