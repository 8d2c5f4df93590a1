use Rattle.std.proofs.Common.{◌≡◌, ℕ, ◌+◌, ◌-◌, ◌<◌, ◌∙◌, [], ◌∷◌, map, refl, subst, arith}
use Rattle.std.specs.List.{range_with_len}
use Rattle.desk_turns.specs.Shared.{fresh}
use Rattle.desk_turns.specs.Passes.{desk_id}
use Rattle.desk_turns.specs.Rule.{fresh_known}
use Rattle.desk_turns.proofs.Seen.{may_split, split_left, split_right, last_one, one_more}
use Rattle.desk_turns.proofs.dealing.deal.Goals as goal

pub split_seat-seat-requires : goal.split_seat-seat-requires
split_seat-seat-requires c =
    let h = c.loop-number.invariant in let words = c.requires.table.1 in let from = h.3 in let to = h.4 in
    let some : 0 < c.args.seats + 1 - c.loop-number.number = omega arith in (
      h.0,
      omega arith,
      may_split c.args.shared.now.key c.loop-number.first.id c.loop-number.number (c.args.seats + 1 - c.loop-number.number) c.loop-number.first.me h.1 some from,
    )

pub new-requires-clause-seat : goal.new-requires-clause-seat
new-requires-clause-seat c =
    let h = c.loop-number.invariant in let from = h.3 in let to = h.4 in let key = c.args.shared.now.key in
    let some : 0 < c.args.seats + 1 - c.loop-number.number = omega arith in
    let few = c.requires.seats.1 in let made = c.requires.seats.2 in (
      key,
      split_right key c.loop-number.number (c.args.seats + 1 - c.loop-number.number) c.loop-number.first.me c.split_seat-seat.result.me h.1 some c.split_seat-seat.ensures.4,
      c.requires.room.0,
      omega arith,
    )

pub loop-number-preserved : goal.loop-number-preserved
loop-number-preserved c =
    let h = c.loop-number.invariant in let from = h.3 in let to = h.4 in let key = c.args.shared.now.key in let n : ℕ = c.loop-number.number in let below = c.loop-number-test.true in
    let split = c.split_seat-seat.ensures in
    let some : 0 < c.args.seats + 1 - n = omega arith in
    let left : c.args.seats + 1 - (n + 1) + 1 ≡ c.args.seats + 1 - n = omega arith in
    let same = c.new.ensures key (split_right key n (c.args.seats + 1 - n) c.loop-number.first.me c.split_seat-seat.result.me h.1 some split.4) in (
      split.0 ∙ h.0,
      split_left key n (c.args.seats + 1 - n) (c.args.seats + 1 - (n + 1)) c.loop-number.first.me c.split_seat-seat.new.seat.me h.1 some left split.2,
      one_more c.args.shared.now.table_id key c.loop-number.dealt.items c.push.new.self.items n (n + 1 - 1) c.new.result c.split_seat-seat.result.table_id c.in_ok-push.ensures.items h.2 same (split.3 ∙ h.0) from (omega arith),
      omega arith,
      omega arith,
    )

pub returns : goal.returns
returns c =
    let h = c.loop-number.invariant in let from = h.3 in let to = h.4 in let key = c.args.shared.now.key in let n : ℕ = c.loop-number.number in let until = c.loop-number-test.false in
    let end : n ≡ c.args.seats = omega arith in
    let one : c.args.seats + 1 - n ≡ 1 = omega arith in
    let me = last_one key n (c.args.seats + 1 - n) c.loop-number.first.me h.1 one in
    let same = c.new-2.ensures key (subst (λ (k : ℕ). c.loop-number.first.me ≡ (fresh_known key k ∷ [], [])) end me) in
    one_more c.args.shared.now.table_id key c.loop-number.dealt.items c.push-2.new.self.items c.args.seats c.args.seats c.new-2.result c.loop-number.first.table_id c.in_ok-push-2.ensures.items
    (subst (λ (k : ℕ). c.loop-number.dealt.items ≡ map (fresh (desk_id c.args.shared.now.table_id key)) (range_with_len 1 (k - 1))) end h.2) same h.0 c.requires.seats.0 refl
