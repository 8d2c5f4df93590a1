-- What the steps of one call tell, as its functions put them together.
use Rattle.std.proofs.Common.{◌≡◌, ◌≢◌, ℕ, ◌+◌, ◌<◌, ◌≤◌, ◌==◌, Bool, true, false, nat_le, List, [], ◌∷◌, ◌++◌, map, length, refl, sym, ap, ◌∙◌, subst, arith}
use Rattle.std.specs.Prelude.{Some, None, MatchBool}
use Rattle.std.proofs.lemmas.Bool.Decides.{nat_tests}
use Rattle.atomic_table.specs.Table.{Me, Allows, rest}
use Rattle.desk_core.specs.declared.event.Event.{Event}
use Rattle.desk_core.specs.declared.event.Logged.{Logged}
use Rattle.desk_core.specs.declared.reply.Reply.{Reply}
use Rattle.desk_core.specs.Past.{past_of}
use Rattle.desk_core.specs.Legal.{IsLegal}
use Rattle.desk_core.specs.DeskValue.{DeskValue}
use Rattle.desk_core.specs.Applying.{IsEntered, Applied}
use Rattle.desk_turns.specs.declared.rule.Opened.{Opened}
use Rattle.desk_turns.specs.declared.rule.Known.{Known}
use Rattle.desk_turns.specs.Shared.{desk_at}
use Rattle.desk_turns.specs.Rule.{Slot, serving, served, is_some_at, carried_log, IsTurns, TakesTurn, LooksOf, Waits, Answers}
use Rattle.desk_turns.proofs.Looks.{looks}
use Rattle.desk_turns.proofs.Serving.{stores}

-- two seats that know one number each know the same
pub same_known : (m : Me Slot (List Known)) (k l : Known) (c d : List (ℕ × Slot)) → m ≡ (k ∷ [], c) → m ≡ (l ∷ [], d) → k ≡ l
same_known m k l c d e f = ap (λ (n : Me Slot (List Known)). head k n.0) (sym e ∙ f)
  where
    head : Known → List Known → Known
    head d [] = d
    head d (k ∷ ks) = k

pub may_look : (of : Opened) (id slots place : ℕ) (m : Me Slot (List Known)) → Waits m place → Allows (IsTurns of) slots id m 1 (λ n. n) (λ found after. LooksOf m m.0 found after)
may_look of id slots place m w =
    subst (λ (n : Me Slot (List Known)). Allows (IsTurns of) slots id n 1 (λ n. n) (λ found after. LooksOf n n.0 found after)) (sym w.1)
    (looks of id w.0 slots place w.2 w.3 w.4)

is_at : (place found : ℕ) → found ≡ place → (place == found) ≡ true
is_at place found e = grind (arith, nat_tests)

is_not_at : (place found : ℕ) → found ≢ place → (place == found) ≡ false
is_not_at place found e = grind (arith, nat_tests)

-- who waits for the place that was found has its turn
pub has_turn : (m after : Me Slot (List Known)) (place found : ℕ) (k : Known) → Waits m place → LooksOf m m.0 found after → found ≡ place → m ≡ (k ∷ [], []) → TakesTurn k place after
has_turn m after place found k w told here me =
    let same : w.0 ≡ k = same_known m w.0 k [] [] w.1 me in
    let waits : k.waits ≡ Some place = ap (λ (l : Known). l.waits) (sym same) ∙ w.2 in
    let at_k : LooksOf (k ∷ [], []) (k ∷ []) found after = subst (λ (n : Me Slot (List Known)). LooksOf n n.0 found after) me told in
    let is : is_some_at k.waits found ≡ true = ap (λ p. is_some_at p found) waits ∙ is_at place found here in
    subst (λ (p : ℕ). TakesTurn k p after) here (turn k found after is at_k)
  where
    IsMe : Me Slot (List Known) → Me Slot (List Known) → Type 0
    IsMe a b = a ≡ b

    turn : (k : Known) (found : ℕ) (after : Me Slot (List Known)) → is_some_at k.waits found ≡ true → LooksOf (k ∷ [], []) (k ∷ []) found after → TakesTurn k found after
    turn k found after is told = subst (λ c. MatchBool c (TakesTurn k found after) (IsMe after (k ∷ [], []))) is told

pub waits_on : (m after : Me Slot (List Known)) (place found : ℕ) → Waits m place → LooksOf m m.0 found after → found ≢ place → after ≡ m
waits_on m after place found w told apart =
    let at_k : LooksOf (w.0 ∷ [], []) (w.0 ∷ []) found after = subst (λ (n : Me Slot (List Known)). LooksOf n n.0 found after) w.1 told in
    let is : is_some_at w.0.waits found ≡ false = ap (λ p. is_some_at p found) w.2 ∙ is_not_at place found apart in
    by (is_some_at w.0.waits found) is at_k ∙ sym w.1
  where
    IsMe : Me Slot (List Known) → Me Slot (List Known) → Type 0
    IsMe a b = a ≡ b

    by : (b : Bool) → b ≡ false → MatchBool b (TakesTurn w.0 found after) (IsMe after (w.0 ∷ [], [])) → IsMe after (w.0 ∷ [], [])
    by b e h = subst (λ c. MatchBool c (TakesTurn w.0 found after) (IsMe after (w.0 ∷ [], []))) e h

-- the seat that has its turn as the desk is changed in its slot
abbrev pub Turned : Me Slot (List Known) → Known → List Logged → Type 0
Turned m k history = m ≡ (serving history k ∷ [], (0, Some (desk_at k.of.desk history)) ∷ [])

pub carries : (m : Me Slot (List Known)) (k : Known) (history : List Logged) → Turned m k history → m.1 ≡ (0, Some (desk_at k.of.desk history)) ∷ rest m.1
carries m k history e = subst (λ (n : Me Slot (List Known)). n.1 ≡ (0, Some (desk_at k.of.desk history)) ∷ rest n.1) (sym e) refl

desk_in : DeskValue → Slot → DeskValue
desk_in d None = d
desk_in d (Some desk) = desk

-- the desk that was found in the slot
pub desk_found : (m : Me Slot (List Known)) (k : Known) (history : List Logged) (found : Slot) (desk : DeskValue) → Turned m k history → m.1 ≡ (0, found) ∷ rest m.1 → found ≡ Some desk → desk ≡ desk_at k.of.desk history
unfolding desk_in
desk_found m k history found desk e is some =
    let slot : found ≡ Some (desk_at k.of.desk history) = ap first (sym is ∙ carries m k history e) in
    ap (desk_in desk) (sym some ∙ slot)
  where
    first : List (ℕ × Slot) → Slot
    first [] = found
    first (x ∷ xs) = x.1

-- after the desk was put back
pub put_back : (m m1 m2 : Me Slot (List Known)) (k : Known) (history : List Logged) (desk : DeskValue) → Turned m k history → m1 ≡ (m.0, (0, None) ∷ rest m.1) → m2 ≡ (m1.0, (0, Some desk) ∷ rest m1.1)
    → m2 ≡ (serving history k ∷ [], (0, Some desk) ∷ [])
put_back m m1 m2 k history desk e e1 e2 =
    let first : m1 ≡ (serving history k ∷ [], (0, None) ∷ []) = e1 ∙ ap (λ (n : Me Slot (List Known)). me_of n.0 ((0, None) ∷ rest n.1)) e in
    e2 ∙ ap (λ (n : Me Slot (List Known)). me_of n.0 ((0, Some desk) ∷ rest n.1)) first
  where
    me_of : List Known → List (ℕ × Slot) → Me Slot (List Known)
    me_of ks c = (ks, c)

not_full : (n room : ℕ) → n < room → nat_le room n ≡ false
not_full n room lt = grind (arith, nat_tests)

pub entered : (k : Known) (history : List Logged) (caller : ℕ) (event : Event) (reply : Reply) (desk after : DeskValue) → desk ≡ desk_at k.of.desk history → length history < k.of.desk.room
    → Applied desk caller event reply after → IsEntered (desk_at k.of.desk history) caller event reply after
entered k history caller event reply desk after is room applied =
    let a : Applied (desk_at k.of.desk history) caller event reply after = subst (λ (d : DeskValue). Applied d caller event reply after) is applied in
    a.entered (not_full (length history) k.of.desk.room room)

pub may_store : (of : Opened) (id slots caller place : ℕ) (event : Event) (reply : Reply) (m2 : Me Slot (List Known)) (k : Known) (history : List Logged) (desk after : DeskValue)
    → m2 ≡ (serving history k ∷ [], (0, Some after) ∷ []) → desk ≡ desk_at k.of.desk history → Applied desk caller event reply after → IsLegal (past_of after.log)
    → k.number ≡ caller → length history ≡ place → place < k.of.desk.room → 1 ≤ k.number → k.number ≤ k.of.seats
    → Allows (IsTurns of) slots id m2 1 (λ _. place + 1) (λ found after. after ≡ (map (served (carried_log m2.1)) m2.0, []))
may_store of id slots caller place event reply m2 k history desk after me is applied legal number place_is room low high =
    let in_room : length history < k.of.desk.room = omega arith in
    let e = entered k history caller event reply desk after is in_room applied in
    let log : after.log ≡ history ++ e.entry ∷ [] = ap (λ (d : DeskValue). d.log) e.added in
    subst (λ (n : Me Slot (List Known)). Allows (IsTurns of) slots id n 1 (λ _. place + 1) (λ found after. after ≡ (map (served (carried_log n.1)) n.0, []))) (sym me)
    (stores of id (serving history k) slots place after e.entry refl (low, high) place_is e.added (e.by ∙ sym number) (subst (λ (h : List Logged). IsLegal (past_of h)) log legal))

pub answers : (m2 m3 : Me Slot (List Known)) (k : Known) (history : List Logged) (caller : ℕ) (event : Event) (reply : Reply) (desk after : DeskValue)
    → m2 ≡ (serving history k ∷ [], (0, Some after) ∷ []) → m3 ≡ (map (served (carried_log m2.1)) m2.0, []) → desk ≡ desk_at k.of.desk history → length history < k.of.desk.room
    → Applied desk caller event reply after → IsLegal (past_of after.log) → Answers k history caller event reply m3
answers m2 m3 k history caller event reply desk after me told is room applied legal =
    let e = entered k history caller event reply desk after is room applied in
    let whole : after ≡ desk_at k.of.desk after.log = e.added ∙ ap (λ (h : List Logged). desk_at k.of.desk h) (sym (ap (λ (d : DeskValue). d.log) e.added)) in (
      after.log,
      told ∙ ap (λ (n : Me Slot (List Known)). me_of (map (served (carried_log n.1)) n.0) []) me,
      subst (λ (d : DeskValue). IsEntered (desk_at k.of.desk history) caller event reply d) whole e,
      legal,
    )
  where
    me_of : List Known → List (ℕ × Slot) → Me Slot (List Known)
    me_of ks c = (ks, c)
