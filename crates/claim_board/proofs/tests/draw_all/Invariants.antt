use Rattle.std.proofs.Common.{◌≡◌, ◌-◌, length}
use Rattle.claim_board.proofs.tests.draw_all.Given as goal

abbrev pub invariant-loop-number : goal.invariant-loop-number
invariant-loop-number l = l.seat.board ≡ l.board

abbrev pub decreases-loop-number : goal.decreases-loop-number
decreases-loop-number l = l.board.n - length l.seat.drawn
