use Rattle.std.specs.String.{string_bytes}
use Rattle.std.specs.List.{slice_get}
use Rattle.std.proofs.Common.{◌≡◌, ◌∷◌, Some, map, sym, ap, ◌∙◌, subst, arith}
use Rattle.std.proofs.lemmas.List.{length-map}
use Rattle.std.proofs.lemmas.Option.{slice_get_within}
use Rattle.command_line.specs.Table.{Commanded, commanded, IsTable}
use Rattle.command_line.proofs.CommandWords.{no_command, command_bad}
use Rattle.command_line.proofs.command.judge_command.Goals as goal

pub returns-in_default-clause-err : goal.returns-in_default-clause-err
returns-in_default-clause-err c =
    let words = map string_bytes c.args.words.now in
    let many = length-map c.args.words.now string_bytes in
    no_command (map commanded c.args.commands.now) words c.requires
    (λ command there begins. let inside = slice_get_within words 0 command.word begins in let none = c.in_default.ensures.cases in absurd (omega arith))

pub returns-in_default-find_command-clause-err : goal.returns-in_default-find_command-clause-err
returns-in_default-find_command-clause-err c =
    let words = map string_bytes c.args.words.now in
    let first = ap (λ l. slice_get (map string_bytes l) 0) c.in-Some.ensures.cases.0 in
    no_command (map commanded c.args.commands.now) words c.requires
    (λ command there begins.
    let both : Some command.word ≡ Some c.as_str.result.now = sym begins ∙ (first ∙ ap (λ w. Some w) (sym c.as_str.ensures.value)) in
    c.in_default-find_command.ensures.none command there (let same : command.word ≡ c.as_str.result.now = cc in same))

pub judge-requires : goal.judge-requires
judge-requires c =
    let there = c.in-Some-find_command.ensures.some.0 in
    subst (λ (k : Commanded). IsTable k.names) there.2 (c.requires.tables there.0 _ there.1)

pub returns-in-Err-clause-err : goal.returns-in-Err-clause-err
returns-in-Err-clause-err c =
    let command = commanded c.in-Some-find_command.command.now in
    let begins = ap (λ l. map string_bytes l) c.in-Some.ensures.cases.0
    ∙ ap (λ w. w ∷ map string_bytes c.in-Some.rest.now) (sym c.as_str.ensures.value ∙ sym c.in-Some-find_command.ensures.some.1) in
    command_bad (map commanded c.args.commands.now) command (map string_bytes c.args.words.now) (map string_bytes c.in-Some.rest.now) c.in-Err.at c.requires
    c.in-Some-find_command.ensures.some.0 begins c.in-Err.ensures.err
