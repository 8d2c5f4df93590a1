use Rattle.std.proofs.Common.{◌≡◌, ◌∙◌, ◌^◌, ◌<◌, cond, sym, ap, subst, arith}
use Rattle.claim_board.specs.Claims.{Claims, BoardId}
use Rattle.claim_board.proofs.Steps.{draws}
use Rattle.claim_board.proofs.board.Board.draw.Goals as goal

pub fetch_add-number-requires : goal.fetch_add-number-requires
fetch_add-number-requires c =
    let seat = c.seat.inside.seat in let board = c.self.inside.table.shared in
    let words = c.self.invariant.4 in
    let one = c.seat.invariant.1 in
    let none : seat.me.0.ended ≡ 0 = c.seat.invariant.2 ∙ ap (λ b. cond b 1 0) c.if-seat.false in
    let small : board.key.numbers < 2 ^ 63 = subst (λ n. n < 2 ^ 63) (sym c.self.invariant.0) c.self.invariant.1 in (
      ap (λ (s : Claims). s.board.table) c.seat.view_is ∙ (ap (λ (b : BoardId). b.table) c.requires ∙ sym (ap (λ (b : BoardId). b.table) c.self.view_is)),
      omega arith,
      draws board.key seat.id seat.me.0 seat.me.1 board.table_id.slots one none small c.self.invariant.3,
    )
