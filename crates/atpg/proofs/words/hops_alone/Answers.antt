use Rattle.std.specs.String.{string_bytes}
use Rattle.std.proofs.Common.{map, refl, arith}
use Rattle.atpg.specs.CommandLine.{hops_name, check_command}
use Rattle.atpg.proofs.AskedWords.{allowed, check_table, check_hops}
use Rattle.atpg.proofs.words.hops_alone.Goals as goal

pub overflow_cast-result : goal.overflow_cast-result
overflow_cast-result c =
    let given = c.number_of.ensures check_command.names check_table check_hops c.requires in
    let (low, high) = allowed hops_name (map string_bytes c.args.rest.now) c.number_of.result 16 refl (omega arith, omega arith) given in
    omega arith

pub returns : goal.returns
returns c = c.number_of.ensures check_command.names check_table check_hops c.requires
