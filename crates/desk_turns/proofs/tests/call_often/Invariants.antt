use Rattle.std.proofs.Common.{◌≡◌}
use Rattle.desk_turns.proofs.tests.call_often.Given as goal

abbrev pub invariant-loop : goal.invariant-loop
invariant-loop g l = l.pass.desk.table ≡ l.desk.table
