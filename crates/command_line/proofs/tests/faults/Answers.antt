use Rattle.std.proofs.Common.{refl, arith}
use Rattle.command_line.proofs.Tables.{apart, no_names, one_name_more}
use Rattle.command_line.proofs.tests.faults.Goals as goal

pub judge-requires : goal.judge-requires
judge-requires c = one_name_more _ _ ((apart _ _ refl), tt) tt (one_name_more _ _ tt (omega arith) no_names)
