use Rattle.std.proofs.Common.{◌≡◌, ◌+◌, ◌-◌, ◌≤◌, [], map}
use Rattle.std.specs.List.{range_with_len}
use Rattle.desk_turns.specs.Shared.{fresh}
use Rattle.desk_turns.specs.Rule.{dealt}
use Rattle.desk_turns.specs.Passes.{desk_id}
use Rattle.desk_turns.proofs.dealing.deal.Given as goal

abbrev pub invariant-loop-number : goal.invariant-loop-number
invariant-loop-number l =
    (l.first.table_id ≡ l.shared.table_id)
    × (l.first.me ≡ (dealt l.shared.key l.number (l.seats + 1 - l.number), []))
    × (l.dealt.items ≡ map (fresh (desk_id l.shared.table_id l.shared.key)) (range_with_len 1 (l.number - 1)))
    × (1 ≤ l.number) × (l.number ≤ l.seats)
