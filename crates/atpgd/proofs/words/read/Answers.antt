use Rattle.std.specs.String.{string_bytes}
use Rattle.std.specs.Prelude.{codes}
use Rattle.std.proofs.Common.{◌≤◌, map, refl, arith}
use Rattle.atpgd.specs.CommandLine.{names, hops_name, entries_name, workers_name, log_name, seats_name}
use Rattle.atpgd.proofs.AskedWords.{are_names, port_there, hops_there, entries_there, workers_there, log_there, seats_there, allowed, given_allowed}
use Rattle.atpgd.proofs.words.read.Goals as goal

pub returns-clause-asked : goal.returns-clause-asked
returns-clause-asked c = record {
  line = c.requires;
  port = c.number_of-port.ensures names are_names port_there c.requires;
  hops = c.number_of-hops.ensures names are_names hops_there c.requires;
  entries = c.number_of-entries.ensures names are_names entries_there c.requires;
  workers = c.number_of-workers.ensures names are_names workers_there c.requires;
  log = c.number_of-log.ensures names are_names log_there c.requires;
  seats = c.number_of-seats.ensures names are_names seats_there c.requires;
}

pub returns-clause-range : goal.returns-clause-range
returns-clause-range c =
    let words = map string_bytes c.args.words.now in
    record {
      hops = allowed hops_name words c.number_of-hops.result 16 refl (omega arith, omega arith) (c.number_of-hops.ensures names are_names hops_there c.requires);
      workers = allowed workers_name words c.number_of-workers.result 1 refl (omega arith, omega arith) (c.number_of-workers.ensures names are_names workers_there c.requires);
      log = allowed log_name words c.number_of-log.result 65536 refl (omega arith, omega arith) (c.number_of-log.ensures names are_names log_there c.requires);
      seats = allowed seats_name words c.number_of-seats.result 4 refl (omega arith, omega arith) (c.number_of-seats.ensures names are_names seats_there c.requires);
    }

pub overflow_cast-result : goal.overflow_cast-result
overflow_cast-result c =
    let given = c.number_of-port.ensures names are_names port_there c.requires in
    let (low, high) = given_allowed 1 65535 (codes "--port") (map string_bytes c.args.words.now) c.number_of-port.result given in
    omega arith

pub overflow_cast-result-2 : goal.overflow_cast-result-2
overflow_cast-result-2 c =
    let given = c.number_of-hops.ensures names are_names hops_there c.requires in
    let (low, high) = allowed hops_name (map string_bytes c.args.words.now) c.number_of-hops.result 16 refl (omega arith, omega arith) given in
    omega arith

pub overflow_cast-result-3 : goal.overflow_cast-result-3
overflow_cast-result-3 c =
    let given = c.number_of-entries.ensures names are_names entries_there c.requires in
    let (low, high) = allowed entries_name (map string_bytes c.args.words.now) c.number_of-entries.result 65536 refl (omega arith, omega arith) given in
    omega arith

pub overflow_cast-result-4 : goal.overflow_cast-result-4
overflow_cast-result-4 c =
    let given = c.number_of-workers.ensures names are_names workers_there c.requires in
    let (low, high) = allowed workers_name (map string_bytes c.args.words.now) c.number_of-workers.result 1 refl (omega arith, omega arith) given in
    omega arith

pub overflow_cast-result-5 : goal.overflow_cast-result-5
overflow_cast-result-5 c =
    let given = c.number_of-seats.ensures names are_names seats_there c.requires in
    let (low, high) = allowed seats_name (map string_bytes c.args.words.now) c.number_of-seats.result 4 refl (omega arith, omega arith) given in
    omega arith
