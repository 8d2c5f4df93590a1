use Rattle.std.specs.String.{string_bytes}
use Rattle.std.proofs.Common.{map, refl, arith}
use Rattle.atpg.specs.CommandLine.{hops_name, session_entries_name, workers_name, log_name, run_command}
use Rattle.atpg.proofs.AskedWords.{allowed, run_table, run_hops, run_entries, run_workers, run_log}
use Rattle.atpg.proofs.limits.SessionLimits.read.Goals as goal

pub returns-clause-hops : goal.returns-clause-hops
returns-clause-hops c = c.number_of-hops.ensures run_command.names run_table run_hops c.requires

pub returns-clause-entries : goal.returns-clause-entries
returns-clause-entries c = c.number_of-entries.ensures run_command.names run_table run_entries c.requires

pub returns-clause-workers : goal.returns-clause-workers
returns-clause-workers c = c.number_of-workers.ensures run_command.names run_table run_workers c.requires

pub returns-clause-log : goal.returns-clause-log
returns-clause-log c = c.number_of-log.ensures run_command.names run_table run_log c.requires

pub overflow_cast-result : goal.overflow_cast-result
overflow_cast-result c =
    let given = c.number_of-hops.ensures run_command.names run_table run_hops c.requires in
    let (low, high) = allowed hops_name (map string_bytes c.args.rest.now) c.number_of-hops.result 16 refl (omega arith, omega arith) given in
    omega arith

pub overflow_cast-result-2 : goal.overflow_cast-result-2
overflow_cast-result-2 c =
    let given = c.number_of-entries.ensures run_command.names run_table run_entries c.requires in
    let (low, high) = allowed session_entries_name (map string_bytes c.args.rest.now) c.number_of-entries.result 65536 refl (omega arith, omega arith) given in
    omega arith

pub overflow_cast-result-3 : goal.overflow_cast-result-3
overflow_cast-result-3 c =
    let given = c.number_of-workers.ensures run_command.names run_table run_workers c.requires in
    let (low, high) = allowed workers_name (map string_bytes c.args.rest.now) c.number_of-workers.result 1 refl (omega arith, omega arith) given in
    omega arith

pub returns-clause-range : goal.returns-clause-range
returns-clause-range c =
    let rest = map string_bytes c.args.rest.now in
    let (some_hops, few_hops) = allowed hops_name rest c.number_of-hops.result 16 refl (omega arith, omega arith) (c.number_of-hops.ensures run_command.names run_table run_hops c.requires) in
    let (some_workers, few_workers) = allowed workers_name rest c.number_of-workers.result 1 refl (omega arith, omega arith) (c.number_of-workers.ensures run_command.names run_table run_workers c.requires) in
    let (some_room, little_room) = allowed log_name rest c.number_of-log.result 65536 refl (omega arith, omega arith) (c.number_of-log.ensures run_command.names run_table run_log c.requires) in
    record { some_hops = some_hops; few_hops = few_hops; some_workers = some_workers; few_workers = few_workers; some_room = some_room; little_room = little_room }
