use Rattle.std.specs.String.{string_bytes}
use Rattle.std.proofs.Common.{◌≡◌, true, map}
use Rattle.command_line.specs.Table.{IsCommandLine}
use Rattle.atpg.specs.CommandLine.{commands, plan_command, upgrade_command, check_command, grow_command, trial_command, run_command, begins_with_run}
use Rattle.atpg.specs.declared.words.CommandWord.TheVariants as command_words
use Rattle.atpg.proofs.AskedWords.{asked_line, first_word, upgrade_alone, plan_options, trial_options, trial_faults, grow_options, grow_table, seed_there}
use Rattle.atpg.proofs.words.parse.Goals as goal

pub returns-in-Plan-clause-ok : goal.returns-in-Plan-clause-ok
returns-in-Plan-clause-ok c =
    let words = map string_bytes c.args.words.now in
    let rest = map string_bytes c.in-Ok.asked.1.now in
    let line : IsCommandLine commands words plan_command rest = asked_line c.in-Ok.asked.0 command_words.Plan words rest c.in-Plan.is c.in-Ok.ensures.ok in
    record { rest = rest; line = line; hops = c.read.ensures.hops; entries = c.read.ensures.entries; workers = c.read.ensures.workers }

pub read-requires : goal.read-requires
read-requires c =
    let words = map string_bytes c.args.words.now in
    let rest = map string_bytes c.in-Ok.asked.1.now in
    let line : IsCommandLine commands words plan_command rest = asked_line c.in-Ok.asked.0 command_words.Plan words rest c.in-Plan.is c.in-Ok.ensures.ok in
    plan_options rest line.line

pub returns-in-Upgrade-clause-ok : goal.returns-in-Upgrade-clause-ok
returns-in-Upgrade-clause-ok c =
    let words = map string_bytes c.args.words.now in
    let rest = map string_bytes c.in-Ok.asked.1.now in
    let line : IsCommandLine commands words upgrade_command rest = asked_line c.in-Ok.asked.0 command_words.Upgrade words rest c.in-Upgrade.is c.in-Ok.ensures.ok in
    upgrade_alone words rest line

pub returns-in-Check-clause-ok : goal.returns-in-Check-clause-ok
returns-in-Check-clause-ok c =
    let words = map string_bytes c.args.words.now in
    let rest = map string_bytes c.in-Ok.asked.1.now in
    let line : IsCommandLine commands words check_command rest = asked_line c.in-Ok.asked.0 command_words.Check words rest c.in-Check.is c.in-Ok.ensures.ok in
    record { rest = rest; line = line; hops_are = c.hops_alone.ensures }

pub hops_alone-requires : goal.hops_alone-requires
hops_alone-requires c =
    let words = map string_bytes c.args.words.now in
    let rest = map string_bytes c.in-Ok.asked.1.now in
    let line : IsCommandLine commands words check_command rest = asked_line c.in-Ok.asked.0 command_words.Check words rest c.in-Check.is c.in-Ok.ensures.ok in
    line.line

pub faults_of-requires : goal.faults_of-requires
faults_of-requires c =
    let words = map string_bytes c.args.words.now in
    let rest = map string_bytes c.in-Ok.asked.1.now in
    let line : IsCommandLine commands words trial_command rest = asked_line c.in-Ok.asked.0 command_words.Trial words rest c.in-Trial.is c.in-Ok.ensures.ok in
    trial_faults rest line.line

pub read-requires-in-Ok-faults_of : goal.read-requires-in-Ok-faults_of
read-requires-in-Ok-faults_of c =
    let words = map string_bytes c.args.words.now in
    let rest = map string_bytes c.in-Ok.asked.1.now in
    let line : IsCommandLine commands words trial_command rest = asked_line c.in-Ok.asked.0 command_words.Trial words rest c.in-Trial.is c.in-Ok.ensures.ok in
    trial_options rest line.line

pub returns-in-Ok-faults_of-clause-ok : goal.returns-in-Ok-faults_of-clause-ok
returns-in-Ok-faults_of-clause-ok c =
    let words = map string_bytes c.args.words.now in
    let rest = map string_bytes c.in-Ok.asked.1.now in
    let line : IsCommandLine commands words trial_command rest = asked_line c.in-Ok.asked.0 command_words.Trial words rest c.in-Trial.is c.in-Ok.ensures.ok in
    record {
      rest = rest;
      line = line;
      hops = c.read-in-Ok-faults_of.ensures.hops;
      entries = c.read-in-Ok-faults_of.ensures.entries;
      workers = c.read-in-Ok-faults_of.ensures.workers;
      faults = c.in-Ok-faults_of.ensures;
    }

pub read-requires-in-Grow : goal.read-requires-in-Grow
read-requires-in-Grow c =
    let words = map string_bytes c.args.words.now in
    let rest = map string_bytes c.in-Ok.asked.1.now in
    let line : IsCommandLine commands words grow_command rest = asked_line c.in-Ok.asked.0 command_words.Grow words rest c.in-Grow.is c.in-Ok.ensures.ok in
    grow_options rest line.line

pub returns-in-Grow-clause-ok : goal.returns-in-Grow-clause-ok
returns-in-Grow-clause-ok c =
    let words = map string_bytes c.args.words.now in
    let rest = map string_bytes c.in-Ok.asked.1.now in
    let line : IsCommandLine commands words grow_command rest = asked_line c.in-Ok.asked.0 command_words.Grow words rest c.in-Grow.is c.in-Ok.ensures.ok in
    record {
      rest = rest;
      line = line;
      hops = c.read-in-Grow.ensures.hops;
      entries = c.read-in-Grow.ensures.entries;
      workers = c.read-in-Grow.ensures.workers;
      seed = c.number_of.ensures grow_command.names grow_table seed_there line.line;
    }

pub unreachable-requires : goal.unreachable-requires
unreachable-requires c =
    let words = map string_bytes c.args.words.now in
    let rest = map string_bytes c.in-Ok.asked.1.now in
    let line : IsCommandLine commands words run_command rest = asked_line c.in-Ok.asked.0 command_words.Run words rest c.in-Run.is c.in-Ok.ensures.ok in
    let is : begins_with_run words ≡ true = first_word command_words.Run words rest line in
    cc
