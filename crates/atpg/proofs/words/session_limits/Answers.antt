use Rattle.std.specs.String.{string_bytes}
use Rattle.std.proofs.Common.{map}
use Rattle.command_line.specs.Table.{IsCommandLine}
use Rattle.atpg.specs.CommandLine.{commands, run_command}
use Rattle.atpg.specs.declared.words.CommandWord.TheVariants as command_words
use Rattle.atpg.proofs.AskedWords.{asked_line, only_run}
use Rattle.atpg.proofs.words.session_limits.Goals as goal

pub returns-clause-ok : goal.returns-clause-ok
returns-clause-ok c =
    let words = map string_bytes c.args.words.now in
    let rest = map string_bytes c.in-Ok.asked.1.now in
    let line : IsCommandLine commands words run_command rest = asked_line c.in-Ok.asked.0 command_words.Run words rest c.in-Run.is c.in-Ok.ensures.ok in
    record { rest = rest; line = line; hops = c.read.ensures.hops; entries = c.read.ensures.entries; workers = c.read.ensures.workers; log = c.read.ensures.log }

pub read-requires : goal.read-requires
read-requires c =
    let words = map string_bytes c.args.words.now in
    let rest = map string_bytes c.in-Ok.asked.1.now in
    let line : IsCommandLine commands words run_command rest = asked_line c.in-Ok.asked.0 command_words.Run words rest c.in-Run.is c.in-Ok.ensures.ok in
    line.line

pub unreachable-requires : goal.unreachable-requires
unreachable-requires c =
    c.in_default.not-Run (only_run c.in-Ok.asked.0 (map string_bytes c.args.words.now) (map string_bytes c.in-Ok.asked.1.now) c.in-Ok.ensures.ok c.requires)
