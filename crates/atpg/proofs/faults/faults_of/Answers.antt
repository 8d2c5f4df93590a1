use Rattle.std.specs.String.{string_bytes}
use Rattle.std.specs.Prelude.{All}
use Rattle.std.proofs.Common.{◌≡◌, ℕ, List, ◌≤◌, map, sym, ◌∙◌, subst}
use Rattle.std.proofs.lemmas.Result.{IfOk-weaker}
use Rattle.command_line.specs.Table.{AreNumbersOf}
use Rattle.atpg.specs.CommandLine.{faults_name}
use Rattle.atpg.proofs.AskedWords.{faults_within}
use Rattle.atpg.proofs.faults.faults_of.Goals as goal

pub rules_of-requires : goal.rules_of-requires
rules_of-requires c =
    let rest = map string_bytes c.args.rest.now in
    let given = c.in_ok-numbers.ensures c.requires.names c.requires.table c.requires.faults c.requires.line in
    subst (λ (l : List ℕ). All (λ n. n ≤ 4294967295) l) (sym c.deref.ensures.value) (faults_within rest c.in_ok-numbers.numbers.items given)

pub returns : goal.returns
returns c =
    let rest = map string_bytes c.args.rest.now in
    let given = c.in_ok-numbers.ensures c.requires.names c.requires.table c.requires.faults c.requires.line in
    IfOk-weaker c.rules_of.result (λ (rules : List ℕ). rules ≡ c.deref.result.now) (λ (rules : List ℕ). AreNumbersOf faults_name rest rules)
    (λ rules same. subst (λ (l : List ℕ). AreNumbersOf faults_name rest l) (sym (same ∙ c.deref.ensures.value)) given) c.rules_of.ensures
