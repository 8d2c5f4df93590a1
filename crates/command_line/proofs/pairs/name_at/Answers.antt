use Rattle.std.proofs.Common.{◌≡◌, map, sym, ◌∙◌, Some, arith}
use Rattle.std.proofs.lemmas.List.{length-take-le}
use Rattle.command_line.specs.Table.{named}
use Rattle.command_line.proofs.Places.{stands_at}
use Rattle.command_line.proofs.GoodPairs.{not_new, is_new}
use Rattle.command_line.proofs.pairs.name_at.Goals as goal

pub returns-in_err-name-clause-none : goal.returns-in_err-name-clause-none
returns-in_err-name-clause-none c =
    rw c.from_residual.ensures (λ name is.
    let stands = stands_at c.args.words.now c.args.at c.index-words-at.result c.as_str.result.now c.requires c.index-words-at.is c.as_str.ensures.value in
    let both : Some name.word ≡ Some c.as_str.result.now = sym is.stands ∙ stands in
    c.in_err-name.ensures.none name is.there (let same : name.word ≡ c.as_str.result.now = cc in same))

pub returns-in-Some-clause-none : goal.returns-in-Some-clause-none
returns-in-Some-clause-none c =
    let stands = stands_at c.args.words.now c.args.at c.index-words-at.result c.in_ok-name.name.now.word.now c.requires c.index-words-at.is (c.in_ok-name.ensures.some.1 ∙ c.as_str.ensures.value) in
    let given = c.in-Some.ensures.some in
    let short = c.in-Some.ensures.short in
    let many = length-take-le c.args.at c.args.words.now (let h = c.requires in omega arith) in
    let place = given.1 in
    not_new (map named c.args.names.now) c.args.words.now c.args.at given.0 c.in_ok-name.name.now.word.now stands (omega arith) (rw (← place) given.2)

pub returns-in-None-clause-some : goal.returns-in-None-clause-some
returns-in-None-clause-some c =
    let stands = stands_at c.args.words.now c.args.at c.index-words-at.result c.in_ok-name.name.now.word.now c.requires c.index-words-at.is (c.in_ok-name.ensures.some.1 ∙ c.as_str.ensures.value) in
    is_new (map named c.args.names.now) c.args.words.now c.args.at (named c.in_ok-name.name.now) c.in_ok-name.ensures.some.0 stands c.in-None.ensures.none
