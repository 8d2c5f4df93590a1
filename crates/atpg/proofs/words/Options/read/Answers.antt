use Rattle.std.specs.String.{string_bytes}
use Rattle.std.proofs.Common.{map, refl, arith}
use Rattle.atpg.specs.CommandLine.{hops_name, entries_name, workers_name}
use Rattle.atpg.proofs.AskedWords.{allowed}
use Rattle.atpg.proofs.words.Options.read.Goals as goal

pub returns-clause-hops : goal.returns-clause-hops
returns-clause-hops c = c.number_of-hops.ensures c.requires.names c.requires.table c.requires.hops c.requires.line

pub returns-clause-entries : goal.returns-clause-entries
returns-clause-entries c = c.number_of-entries.ensures c.requires.names c.requires.table c.requires.entries c.requires.line

pub overflow_cast-result : goal.overflow_cast-result
overflow_cast-result c =
    let given = c.number_of-hops.ensures c.requires.names c.requires.table c.requires.hops c.requires.line in
    let (low, high) = allowed hops_name (map string_bytes c.args.rest.now) c.number_of-hops.result 16 refl (omega arith, omega arith) given in
    omega arith

pub overflow_cast-result-2 : goal.overflow_cast-result-2
overflow_cast-result-2 c =
    let given = c.number_of-entries.ensures c.requires.names c.requires.table c.requires.entries c.requires.line in
    let (low, high) = allowed entries_name (map string_bytes c.args.rest.now) c.number_of-entries.result 65536 refl (omega arith, omega arith) given in
    omega arith

pub returns-clause-workers : goal.returns-clause-workers
returns-clause-workers c = c.number_of-workers.ensures c.requires.names c.requires.table c.requires.workers c.requires.line

pub overflow_cast-result-3 : goal.overflow_cast-result-3
overflow_cast-result-3 c =
    let given = c.number_of-workers.ensures c.requires.names c.requires.table c.requires.workers c.requires.line in
    let (low, high) = allowed workers_name (map string_bytes c.args.rest.now) c.number_of-workers.result 1 refl (omega arith, omega arith) given in
    omega arith

pub returns-clause-range : goal.returns-clause-range
returns-clause-range c =
    let given = c.number_of-workers.ensures c.requires.names c.requires.table c.requires.workers c.requires.line in
    allowed workers_name (map string_bytes c.args.rest.now) c.number_of-workers.result 1 refl (omega arith, omega arith) given
