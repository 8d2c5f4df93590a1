use Rattle.std.proofs.Common.{◌≡◌, ℕ, ◌<◌, ◌≤◌, [], length, get_or}
use Rattle.std.specs.List.{slice_get}
use Rattle.network_model.specs.Cover.{rules_at}
use Rattle.rule_cover.specs.Places.{ArePlaces}
use Rattle.rule_cover.proofs.places.rule_lists.Given as goal

abbrev pub invariant-loop-row : goal.invariant-loop-row
invariant-loop-row l = record {
  count : length l.lists ≡ l.row;
  each : (k : ℕ) → k < l.row → ArePlaces l.numbers.items (rules_at (slice_get l.table k)) (get_or l.lists k []);
  room : length l.latest.items ≡ length l.numbers.items;
  latest : (p : ℕ) → get_or l.latest.items p 0 ≤ l.row;
}
