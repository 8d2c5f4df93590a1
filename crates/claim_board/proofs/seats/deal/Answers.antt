use Rattle.std.proofs.Common.{◌≡◌, ℕ, ◌+◌, ◌-◌, ◌≤◌, ◌∙◌, List, [], ◌∷◌, ◌++◌, replicate, ap, arith}
use Rattle.std.proofs.lemmas.List.{replicate_more}
use Rattle.atomic_table.specs.Seated.{TableId}
use Rattle.atomic_table.specs.Table.{Me}
use Rattle.claim_board.specs.Claims.{Claims, board_id, fresh}
use Rattle.claim_board.specs.declared.rule.Size.{Size}
use Rattle.claim_board.specs.declared.rule.Tally.{Tally}
use Rattle.claim_board.specs.Fair.{one_less, one_seat}
use Rattle.claim_board.proofs.Steps.{deals}
use Rattle.claim_board.proofs.seats.deal.Goals as goal

fresh_same : (t u : TableId) (of same : Size) → t ≡ u → of ≡ same → fresh (board_id t of.numbers of.seats) ≡ fresh (board_id u same.numbers same.seats)
fresh_same t u of same e f = λ i. fresh (board_id (e i) (f i).numbers (f i).seats)

one_more : (items more : List Claims) (k n : ℕ) (x y : Claims) → more ≡ items ++ x ∷ [] → items ≡ replicate (k - 1) y → x ≡ y → 1 ≤ k → n ≡ k → more ≡ replicate n y
one_more items more k n x y pushed were same from is =
    let last : k - 1 + 1 ≡ n = omega arith in
    pushed ∙ ((λ i. were i ++ same i ∷ []) ∙ (replicate_more (k - 1) y ∙ ap (λ (m : ℕ). replicate m y) last))

pub split_seat-requires : goal.split_seat-requires
split_seat-requires c =
    let h = c.loop.invariant in let test = c.loop-test.true in let words = c.requires.1 in let left = h.3 in
    (h.0, omega arith, deals c.args.shared.now.key c.loop.first.id c.loop.first.me.0 (omega arith) h.4)

pub loop-preserved : goal.loop-preserved
loop-preserved c =
    let h = c.loop.invariant in let left = h.3 in let key = c.args.shared.now.key in
    let split = c.split_seat.ensures in
    let now : c.split_seat.new.seat.me ≡ (one_less c.loop.first.me.0, c.loop.first.me.1) = split.2 in
    let dealt : c.split_seat.result.me ≡ (one_seat c.loop.first.me.0.of, []) = split.4 in
    let seats : c.split_seat.new.seat.me.0.seats ≡ c.loop.first.me.0.seats - 1 = ap (λ (m : Me (Unit {0}) Tally). m.0.seats) now in
    let same = c.new.ensures ∙ fresh_same c.split_seat.result.table_id c.args.shared.now.table_id c.split_seat.result.me.0.of key (split.3 ∙ h.0) (ap (λ (m : Me (Unit {0}) Tally). m.0.of) dealt ∙ h.2) in (
      split.0 ∙ h.0,
      ap (λ (m : Me (Unit {0}) Tally). m.1) now ∙ h.1,
      ap (λ (m : Me (Unit {0}) Tally). m.0.of) now ∙ h.2,
      omega arith,
      ap (λ (m : Me (Unit {0}) Tally). m.0.ended) now ∙ h.4,
      ap (λ (m : Me (Unit {0}) Tally). m.0.drawn) now ∙ h.5,
      one_more c.loop.dealt.items c.push.new.self.items c.loop.counter (c.loop.counter + 1 - 1) c.new.result _ c.in_ok-push.ensures.items h.6 same (omega arith) (omega arith),
    )

pub returns : goal.returns
returns c =
    let h = c.loop.invariant in let key = c.args.shared.now.key in let until = c.loop-test.false in let some_seat = c.requires.2 in
    let same = c.new-2.ensures ∙ fresh_same c.loop.first.table_id c.args.shared.now.table_id c.loop.first.me.0.of key h.0 h.2 in
    one_more c.loop.dealt.items c.push-2.new.self.items c.loop.counter c.args.seats c.new-2.result _ c.in_ok-push-2.ensures.items h.6 same (omega arith) (omega arith)
