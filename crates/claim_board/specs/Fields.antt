-- A seat and a board as callers see them, and what is true of their fields.
use Rattle.std.specs.Prelude.{◌≡◌, ◌^◌, ◌<◌, ◌≤◌, cond, [], length}
use Rattle.claim_board.specs.Claims.{most_seats, BoardId, board_id, Claims}
use Rattle.claim_board.specs.declared.seats.ClaimSeat.TheInside.{Inside as SeatFields}
use Rattle.claim_board.specs.declared.board.Board.TheInside.{Inside as BoardFields}

abbrev pub claims_of : SeatFields → Claims
claims_of s = record {
  board = board_id s.seat.table_id s.seat.me.0.of.numbers s.seat.me.0.of.seats;
  drawn = s.seat.me.0.drawn;
  spent = s.spent;
}

-- it is one seat, which drew past the last number if it is spent
abbrev pub IsOneSeat : SeatFields → Type 0
IsOneSeat s =
    (s.seat.me.1 ≡ []) × (s.seat.me.0.seats ≡ 1) × (s.seat.me.0.ended ≡ cond s.spent 1 0)
    × (length s.seat.me.0.drawn ≤ s.seat.me.0.of.numbers)

abbrev pub id_of : BoardFields → BoardId
id_of b = board_id b.table.shared.table_id b.n b.table.shared.key.seats

-- its table has one word and no slot, and keeps the rule of this many numbers and seats
abbrev pub IsBoard : BoardFields → Type 0
IsBoard b =
    (b.table.shared.key.numbers ≡ b.n) × (b.n < 2 ^ 63) × (1 ≤ b.table.shared.key.seats) × (b.table.shared.key.seats ≤ most_seats)
    × (b.table.shared.table_id.words ≡ 1) × (b.table.shared.table_id.slots ≡ 0)
