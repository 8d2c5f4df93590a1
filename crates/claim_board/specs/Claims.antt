-- What callers see of a board and of its seats.
--     most_seats   how many seats a board may have
--     BoardId      which board it is
--     Claims       what a seat has drawn
--     fresh id     a seat that has drawn nothing
--     numbers_below n, drawn_by seats      the numbers from 0 up to n; what the seats drew, one seat after another
use Rattle.std.specs.Prelude.{ℕ, Bool, false, List, []}
use Rattle.std.specs.List.{flat_map, range_with_len}
use Rattle.atomic_table.specs.Seated.{TableId}

abbrev pub most_seats : ℕ
most_seats = 64

-- which board it is, how many numbers it gives out, and how many seats were made for it
pub record BoardId : Type 0 where
  pub table : TableId
  pub n : ℕ
  pub seats : ℕ

abbrev pub board_id : TableId → ℕ → ℕ → BoardId
board_id table n seats = record { table = table; n = n; seats = seats }

-- the board that a seat is of, the numbers that it drew, in order, and whether it was answered that there are no more
pub record Claims : Type 0 where
  pub board : BoardId
  pub drawn : List ℕ
  pub spent : Bool

abbrev pub fresh : BoardId → Claims
fresh id = record { board = id; drawn = []; spent = false }

abbrev pub numbers_below : ℕ → List ℕ
numbers_below n = range_with_len 0 n

abbrev pub drawn_by : List Claims → List ℕ
drawn_by seats = flat_map (λ s. s.drawn) seats
