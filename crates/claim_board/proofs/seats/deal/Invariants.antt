use Rattle.std.proofs.Common.{◌≡◌, ◌+◌, ◌-◌, [], replicate}
use Rattle.claim_board.specs.Claims.{board_id, fresh}
use Rattle.claim_board.proofs.seats.deal.Given as goal

abbrev pub invariant-loop : goal.invariant-loop
invariant-loop l =
    (l.first.table_id ≡ l.shared.table_id) × (l.first.me.1 ≡ []) × (l.first.me.0.of ≡ l.shared.key)
    × (l.first.me.0.seats + l.counter ≡ l.seats + 1) × (l.first.me.0.ended ≡ 0) × (l.first.me.0.drawn ≡ [])
    × (l.dealt.items ≡ replicate (l.counter - 1) (fresh (board_id l.shared.table_id l.shared.key.numbers l.shared.key.seats)))
