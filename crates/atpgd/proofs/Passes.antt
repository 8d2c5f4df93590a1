-- What an event leaves of a pass, and a session of a seat.
use Rattle.std.specs.Prelude.{MatchOption}
use Rattle.std.proofs.Common.{◌≡◌, ℕ, List, Option, None, Some, ap}
use Rattle.desk_core.specs.declared.event.Event.{Event}
use Rattle.desk_core.specs.declared.reply.Reply.{Reply}
use Rattle.desk_core.specs.declared.reply.Reply.TheVariants.{Refused}
use Rattle.desk_core.specs.declared.reply.Refusal.TheVariants.{LogFull}
use Rattle.desk_turns.specs.declared.seat.SeatDesk.{SeatDesk}
use Rattle.desk_turns.specs.Shared.{PassValue, Asked, IsAnswered, IsFull}
use Rattle.session_lines.specs.declared.ends.SessionEnd.{SessionEnd}
use Rattle.session_lines.specs.Sessions.{IsSession}
use Rattle.session_lines.proofs.MappedSessions.{session_shown, session_keeps}

-- it is of the same desk
pub asked_keeps : (before : PassValue) (event : Event) (reply : Reply) (after : PassValue) → Asked before event reply after → after.desk ≡ before.desk
asked_keeps before event reply after asked = by_full after.full asked
  where
    by_full : (full : Option ℕ) → MatchOption full ((place : ℕ) × IsAnswered before event reply place after) (λ place. (reply ≡ Refused (LogFull place)) × IsFull before place after) → after.desk ≡ before.desk
    by_full None answered = ap (λ (p : PassValue). p.desk) answered.1.stays
    by_full (Some place) refused = ap (λ (p : PassValue). p.desk) refused.1.stays

-- what a seat's pass is asked
abbrev pub seat_asked : {R : Type 0} → SeatDesk R → Event → Reply → SeatDesk R → Type 0
seat_asked before event reply after = (after.pass.ghost_name ≡ before.pass.ghost_name) × Asked before.pass.now event reply after.pass.now

-- A session at a seat is one with its pass, which stays the same reference and of the same desk.
module _ {R L : Type 0} (left : L → Option (List ℕ)) (given ends : L → ℕ) (taken : L → Option (List ℕ)) (limit hops : ℕ) (before after : SeatDesk R) (line line_after : L) (end : SessionEnd) (session : IsSession seat_asked left given ends taken limit hops before after line line_after end) where
  pub seat_session : IsSession Asked left given ends taken limit hops before.pass.now after.pass.now line line_after end
  seat_session = session_shown (λ (seat : SeatDesk R). seat.pass.now) (λ seat. Unit {0}) seat_asked Asked (λ a event reply b kept asked. (tt, asked.1)) before tt left given ends taken limit hops after line line_after end session

  pub seat_named : after.pass.ghost_name ≡ before.pass.ghost_name
  seat_named = session_keeps (λ (seat : SeatDesk R). seat.pass.ghost_name) seat_asked (λ a event reply b asked. asked.0) left given ends taken limit hops before after line line_after end session

  pub seat_desk : after.pass.now.desk ≡ before.pass.now.desk
  seat_desk = session_keeps (λ (seat : SeatDesk R). seat.pass.now.desk) seat_asked (λ a event reply b asked. asked_keeps a.pass.now event reply b.pass.now asked.1) left given ends taken limit hops before after line line_after end session
