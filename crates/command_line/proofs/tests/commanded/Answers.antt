use Rattle.std.proofs.Common.{refl, arith}
use Rattle.command_line.proofs.Tables.{apart, no_names, one_name_more, one_command, one_command_more}
use Rattle.command_line.proofs.tests.commanded.Goals as goal

pub judge_command-requires : goal.judge_command-requires
judge_command-requires c =
    let hops = one_name_more _ _ tt (omega arith) no_names in
    one_command_more _ _ ((apart _ _ refl), ((apart _ _ refl), tt)) hops
    (one_command_more _ _ ((apart _ _ refl), tt) (one_name_more _ _ ((apart _ _ refl), tt) (omega arith) hops)
    (one_command _ no_names))
