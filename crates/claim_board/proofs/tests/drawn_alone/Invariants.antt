use Rattle.std.proofs.Common.{◌≡◌, vec_len}
use Rattle.std.specs.List.{All}
use Rattle.claim_board.specs.Fields.{id_of}
use Rattle.claim_board.proofs.tests.drawn_alone.Given as goal

abbrev pub invariant-loop : goal.invariant-loop
invariant-loop l = (vec_len l.seats ≡ 1) × ((id_of l.board-inside).seats ≡ 1) × All (λ s. s.board ≡ id_of l.board-inside) l.seats.items
