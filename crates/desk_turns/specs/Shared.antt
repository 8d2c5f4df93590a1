-- What callers see of a shared desk and of its passes, and what its calls do.
--     most_seats, most_room    how many passes a desk may have, and entries its log
--     DeskId               which desk it is, the desk that it was made of, and how many passes were made
--     PassValue            what a pass has seen, the calls that it made, and the place of the Full that it was answered
--     fresh desk number    a pass that has made no call
--     desk_at desk history     the desk after a history
--     IsAnswered           a call that entered its event, and was answered by the desk at its place
--     IsFull               a call whose place is past the room
--     Asked                either, as the answer of a seat
--     IsClosed             what the desk has when it is closed
use Rattle.std.specs.Prelude.{◌≡◌, ℕ, ◌<◌, ◌≤◌, nat_le, ◌&&◌, ◌==◌, List, [], ◌∷◌, ◌++◌, length, drop, Option, Some, None, MatchOption, cond}
use Rattle.std.specs.List.{All, count_by}
use Rattle.atomic_table.specs.Seated.{TableId}
use Rattle.desk_core.specs.declared.event.Event.{Event}
use Rattle.desk_core.specs.declared.event.Logged.{Logged}
use Rattle.desk_core.specs.declared.reply.Refusal.TheVariants.{LogFull}
use Rattle.desk_core.specs.declared.reply.Reply.{Reply}
use Rattle.desk_core.specs.declared.reply.Reply.TheVariants.{Refused}
use Rattle.desk_core.specs.Past.{past_of}
use Rattle.desk_core.specs.Legal.{IsLegal}
use Rattle.desk_core.specs.DeskValue.{DeskValue}
use Rattle.desk_core.specs.Applying.{IsEntered}
use Rattle.desk_turns.specs.Histories.{Begins, made_by}

abbrev pub most_seats : ℕ
most_seats = 64

abbrev pub most_room : ℕ
most_room = 4194304

-- two desks have one table only if they are one
pub record DeskId : Type 0 where
  pub table : TableId
  pub opening : DeskValue
  pub seats : ℕ

-- each call with its place in the history and its entry there
pub record PassValue : Type 0 where
  pub desk : DeskId
  pub number : ℕ
  pub seen : List Logged
  pub calls : List (ℕ × Logged)
  pub full : Option ℕ

abbrev pub fresh : DeskId → ℕ → PassValue
fresh desk number = record { desk = desk; number = number; seen = desk.opening.log; calls = []; full = None }

abbrev pub desk_at : DeskValue → List Logged → DeskValue
desk_at opening history = record opening { log = history }

-- the calls of this pass since the desk was opened
abbrev pub own_calls : PassValue → List Logged → List (ℕ × Logged)
own_calls pass history = made_by pass.number (length pass.desk.opening.log) history

-- What others entered since stands between what was seen before and this call's entry. The reply is the one that the desk gives
-- there, and so the one that the history defines at its place
pub record IsAnswered (before : PassValue) (event : Event) (reply : Reply) (place : ℕ) (after : PassValue) : Type 0 where
  pub open_before : before.full ≡ None
  pub between : List Logged
  pub place_is : place ≡ length (before.seen ++ between)
  pub in_room : place < before.desk.opening.room
  pub entered : IsEntered (desk_at before.desk.opening (before.seen ++ between)) before.number event reply (desk_at before.desk.opening after.seen)
  pub legal : IsLegal (past_of after.seen)
  pub calls : after.calls ≡ before.calls ++ (place, entered.entry) ∷ []
  pub own : own_calls before after.seen ≡ after.calls
  pub stays : after ≡ record before { seen = after.seen; calls = after.calls }

-- the place that was drawn is at or past the room, and the pass keeps it for good
pub record IsFull (before : PassValue) (place : ℕ) (after : PassValue) : Type 0 where
  pub past_room : before.desk.opening.room ≤ place
  pub again : (earlier : ℕ) → before.full ≡ Some earlier → place ≡ earlier
  pub stays : after ≡ record before { full = Some place }

abbrev pub Asked : PassValue → Event → Reply → PassValue → Type 0
Asked before event reply after =
    MatchOption after.full ((place : ℕ) × IsAnswered before event reply place after)
    (λ place. (reply ≡ Refused (LogFull place)) × IsFull before place after)

-- The history begins with what each pass has seen. Since the opening it has the calls of each pass, and of no other number; and each
-- number from 1 to the number of passes is the number of one pass. So it has all calls, each once, and no others
pub record IsClosed (desk : DeskId) (passes : List PassValue) (after : DeskValue) : Type 0 where
  pub stays : after ≡ desk_at desk.opening after.log
  pub begins : Begins desk.opening.log after.log
  pub legal : IsLegal (past_of after.log)
  pub seen : All (λ p. Begins p.seen after.log) passes
  pub calls : All (λ p. made_by p.number (length desk.opening.log) after.log ≡ p.calls) passes
  pub callers : All (λ e. (1 ≤ e.caller) × (e.caller ≤ desk.seats)) (drop (length desk.opening.log) after.log)
  pub numbers : (x : ℕ) → count_by (λ p. p.number == x) passes ≡ cond (nat_le 1 x && nat_le x desk.seats) 1 0
