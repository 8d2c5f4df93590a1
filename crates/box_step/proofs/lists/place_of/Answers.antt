use Rattle.std.proofs.Common.{ℕ, rules}
use Rattle.std.proofs.lemmas.List.Sorted.{answers_always}
use Rattle.net_types.proofs.Rows.{searched_ok, searched_err}
use Rattle.box_step.specs.declared.lists.Listed.{Listed}
use Rattle.box_step.proofs.lists.place_of.Goals as goal

pub returns-clause-found : goal.returns-clause-found
returns-clause-found c =
    let number_of : Listed → ℕ = λ row. row.rule in
    let facts = c.binary_search_by_key.ensures in
    let by_number = facts.position number_of (answers_always _ _ _ (λ f a r k called. search rules)) in
    searched_ok number_of c.args.rows.now c.requires c.args.number c.binary_search_by_key.result facts.bound by_number

pub returns-clause-gap : goal.returns-clause-gap
returns-clause-gap c =
    let number_of : Listed → ℕ = λ row. row.rule in
    let facts = c.binary_search_by_key.ensures in
    let by_number = facts.position number_of (answers_always _ _ _ (λ f a r k called. search rules)) in
    searched_err number_of c.args.rows.now c.requires c.args.number c.binary_search_by_key.result facts.bound by_number
