use Rattle.desk_turns.proofs.Fresh.{all_fresh_here}
use Rattle.desk_turns.proofs.tests.opened.Goals as goal

pub returns-clause-passes : goal.returns-clause-passes
returns-clause-passes c = all_fresh_here c.in_ok-desk-2.desk 1 c.args.seats c.in_ok-desk-2.passes.items c.in_ok-desk-2.ensures.passes
