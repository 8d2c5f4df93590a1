-- The rule of the table behind a shared desk, and what its steps do to what a seat knows.
-- The first word is the next place to draw, the second the place that is served. The slot holds the desk. A seat knows a list of
-- Known, one for each pass number that it keeps.
--     fresh_known, founder, opened, dealt      what is known at the start
--     drawn, serving, served, lifted, founded, first_only, without_first    what the steps make of it
--     total f views                            the sum over all that is known
--     Fits, Serves                             what is true between any two steps once the desk lies in its slot
--     Founds                                   and before that, when the first seat is the only one
--     IsTurns                                  the rule
--     TakesTurn, LooksOf                       what a look at the place served tells
--     Waits, HasTurn, Answers                  one seat in a call: before its turn, in it, and behind it
use Rattle.std.specs.Prelude.{◌≡◌, ℕ, ◌+◌, ◌<◌, ◌≤◌, ◌==◌, nat_lt, nat_le, min, Bool, true, false, ◌&&◌, ◌⊎◌, cond, List, [], ◌∷◌, map, length, drop, Option, Some, None, MatchBool}
use Rattle.std.specs.List.{All, sum_by, range_with_len}
use mathlib.Core.Option as core
use Rattle.atomic_table.specs.Table.{State, Me}
use Rattle.desk_core.specs.declared.event.Event.{Event}
use Rattle.desk_core.specs.declared.event.Logged.{Logged}
use Rattle.desk_core.specs.declared.reply.Reply.{Reply}
use Rattle.desk_core.specs.Past.{past_of}
use Rattle.desk_core.specs.Legal.{IsLegal}
use Rattle.desk_core.specs.DeskValue.{DeskValue}
use Rattle.desk_core.specs.Applying.{IsEntered}
use Rattle.desk_turns.specs.declared.rule.Opened.{Opened}
use Rattle.desk_turns.specs.declared.rule.Known.{Known}
use Rattle.desk_turns.specs.Histories.{Begins, made_by}
use Rattle.desk_turns.specs.Shared.{desk_at, most_room}

-- what is known of a pass number that has made no call. The first seat, before the desk lies in its slot, keeps the number 0
abbrev pub fresh_known : Opened → ℕ → Known
fresh_known of number = record { of = of; number = number; seen = of.desk.log; waits = None; holds = false; past = None }

abbrev pub founder : Opened → Bool → Known
founder of holds = record { of = of; number = 0; seen = []; waits = None; holds = holds; past = None }

abbrev pub opened : Opened → List Known
opened of = founder of false ∷ []

-- of all numbers that are left, from this one on
abbrev pub dealt : Opened → ℕ → ℕ → List Known
dealt of number count = map (fresh_known of) (range_with_len number count)

-- a draw: a place below the room, or one past it
abbrev pub drawn : ℕ → Known → Known
drawn found k = cond (nat_lt found k.of.desk.room) (record k { waits = Some found }) (record k { past = Some found })

abbrev pub serving : List Logged → Known → Known
serving history k = record k { waits = None; holds = true; seen = history }

abbrev pub served : List Logged → Known → Known
served history k = record k { holds = false; seen = history }

-- the first of several, and the others
abbrev pub first_only : List Known → List Known
first_only [] = []
first_only (k ∷ ks) = k ∷ []

abbrev pub without_first : List Known → List Known
without_first [] = []
without_first (k ∷ ks) = ks

abbrev pub lifting : Known → Known
lifting k = record k { holds = true }

abbrev pub lifted : List Known → List Known
lifted ks = map lifting ks

abbrev pub founded : List Known → List Known
founded [] = []
founded (k ∷ ks) = dealt k.of 1 k.of.seats

abbrev pub Slot : Type 0
Slot = Option DeskValue

-- the history that the slot has
abbrev pub carried_log : List (ℕ × Slot) → List Logged
carried_log [] = []
carried_log ((k, None) ∷ slots) = []
carried_log ((k, Some desk) ∷ slots) = desk.log

abbrev pub count : Bool → ℕ
count b = cond b 1 0

abbrev pub is_some_at : Option ℕ → ℕ → Bool
is_some_at None place = false
is_some_at (Some drawn) place = drawn == place

abbrev pub is_past : Option ℕ → Bool
is_past None = false
is_past (Some place) = true

abbrev pub total : (Known → ℕ) → List (List Known) → ℕ
total f views = sum_by (λ ks. sum_by f ks) views

abbrev pub holders : List (List Known) → ℕ
holders views = total (λ k. count k.holds) views

abbrev pub waiting : ℕ → List (List Known) → ℕ
waiting place views = total (λ k. count (is_some_at k.waits place)) views

abbrev pub draws_past : List (List Known) → ℕ
draws_past views = total (λ k. count (is_past k.past)) views

abbrev pub keepers : ℕ → List (List Known) → ℕ
keepers number views = total (λ k. count (k.number == number)) views

abbrev pub numbers : List (List Known) → ℕ
numbers views = total (λ k. 1) views

-- what is known of a number is of this desk: what was seen is a beginning of the history, which has no later call of the number, and
-- who has the turn has seen it all
pub record Fits (of : Opened) (history : List Logged) (k : Known) : Type 0 where
  pub of_is : k.of ≡ of
  pub numbered : 0 < k.number
  pub seen : Begins k.seen history
  pub own : made_by k.number (length of.desk.log) k.seen ≡ made_by k.number (length of.desk.log) history
  pub all_seen : k.holds ≡ true → k.seen ≡ history

-- The places of those that wait are the numbers from the one served, or after it where one has the turn, up to the lesser of the
-- next place and the room, each once. At most one has the turn, and the slot is out exactly then. Each number from 1 to the number of
-- passes is kept once. The next place is at most the room and one for each draw past it, of which there are none below the room
pub record Serves (of : Opened) (ticket : ℕ) (history : List Logged) (home : core.Option Slot) (views : List (List Known)) : Type 0 where
  pub begins : Begins of.desk.log history
  pub legal : IsLegal (past_of history)
  pub callers : All (λ e. (1 ≤ e.caller) × (e.caller ≤ of.seats)) (drop (length of.desk.log) history)
  pub one_holder : holders views ≤ 1
  pub below : length history + holders views ≤ ticket
  pub within : length history + holders views ≤ of.desk.room
  pub waits : (place : ℕ) → waiting place views ≡ count (nat_le (length history + holders views) place && nat_lt place (min ticket of.desk.room))
  pub at_home : holders views ≡ 0 → home ≡ core.some (Some (desk_at of.desk history))
  pub out : 0 < holders views → home ≡ core.none
  pub each_once : (x : ℕ) → keepers x views ≡ count (nat_le 1 x && nat_le x of.seats)
  pub all_numbers : numbers views ≡ of.seats
  pub none_past : 0 < draws_past views → of.desk.room ≤ ticket
  pub bound : ticket ≤ of.desk.room + draws_past views
  pub each : All (All (Fits of history)) views

-- the desk is on its way into the slot
abbrev pub Founds : Opened → State Slot (List Known) → Type 0
Founds of s =
    (holds : Bool) × (s.words ≡ length of.desk.log ∷ length of.desk.log ∷ [])
    × (s.homes ≡ cond holds core.none (core.some None) ∷ []) × (s.views ≡ (founder of holds ∷ []) ∷ [])

abbrev pub Turning : Opened → State Slot (List Known) → Type 0
Turning of s =
    (ticket : ℕ) × (history : List Logged) × (home : core.Option Slot)
    × (s.words ≡ ticket ∷ length history ∷ []) × (s.homes ≡ home ∷ []) × Serves of ticket history home s.views

abbrev pub IsTurns : Opened → State Slot (List Known) → Type 0
IsTurns of s = Founds of s ⊎ Turning of s

-- What a look at the place served tells one who waits for a place. It is its turn where they are equal: it takes the slot, and has
-- seen the whole history
abbrev pub TakesTurn : Known → ℕ → Me Slot (List Known) → Type 0
TakesTurn k place after =
    (history : List Logged)
    × (after ≡ (serving history k ∷ [], (0, Some (desk_at k.of.desk history)) ∷ []))
    × Begins k.seen history × (length k.of.desk.log ≤ length history) × (length history ≡ place) × (place < k.of.desk.room) × (1 ≤ k.number) × (k.number ≤ k.of.seats)
    × IsLegal (past_of history)
    × (made_by k.number (length k.of.desk.log) history ≡ made_by k.number (length k.of.desk.log) k.seen)

abbrev pub LooksOf : Me Slot (List Known) → List Known → ℕ → Me Slot (List Known) → Type 0
LooksOf before [] found after = after ≡ before
LooksOf before (k ∷ ks) found after = MatchBool (is_some_at k.waits found) (TakesTurn k found after) (after ≡ before)

-- it waits for this place, and does nothing else
abbrev pub Waits : Me Slot (List Known) → ℕ → Type 0
Waits me place = (k : Known) × (me ≡ (k ∷ [], [])) × (k.waits ≡ Some place) × (k.holds ≡ false) × (0 < k.number)

-- it has the desk, and this is its number and its place
abbrev pub HasTurn : Me Slot (List Known) → ℕ → ℕ → Type 0
HasTurn me caller place =
    (k : Known) × (history : List Logged) × (me ≡ (serving history k ∷ [], (0, Some (desk_at k.of.desk history)) ∷ []))
    × (k.number ≡ caller) × (length history ≡ place) × (place < k.of.desk.room) × (place < most_room)
    × (1 ≤ k.number) × (k.number ≤ k.of.seats)

-- it entered the event, and has given the desk back
abbrev pub Answers : Known → List Logged → ℕ → Event → Reply → Me Slot (List Known) → Type 0
Answers k history caller event reply after =
    (history' : List Logged) × (after ≡ (served history' (serving history k) ∷ [], []))
    × IsEntered (desk_at k.of.desk history) caller event reply (desk_at k.of.desk history') × IsLegal (past_of history')
