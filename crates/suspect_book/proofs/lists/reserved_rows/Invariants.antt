use Rattle.std.proofs.Common.{◌≡◌, ℕ, suc, false, ◌<◌, length, take, slice_index_or}
use Rattle.network_model.specs.Plan.{reserved}
use Rattle.fault_model.specs.Outcomes.{has}
use Rattle.suspect_book.proofs.lists.reserved_rows.Given as goal

abbrev pub invariant-loop-i : goal.invariant-loop-i
invariant-loop-i l = record {
  room : length l.rows.items ≡ length l.plan.plan.table;
  told : (k : ℕ) → k < length l.plan.plan.table → slice_index_or l.rows.items k false ≡ has (take l.i (reserved l.plan.plan)) (suc k);
}
