use Rattle.std.proofs.Common.{rules}
use Rattle.std.proofs.lemmas.List.Sorted.{answers_always}
use Rattle.net_types.proofs.Rows.{searched_ok, searched_err}
use Rattle.net_types.proofs.row.place_of.Goals as goal

pub returns-clause-found : goal.returns-clause-found
returns-clause-found g c =
    let facts = c.binary_search_by_key.ensures in
    let by_number = facts.position g.T.Row.number (answers_always _ _ _ (λ f a r k called. search rules)) in
    searched_ok g.T.Row.number c.args.rows.now c.requires c.args.number c.binary_search_by_key.result facts.bound by_number

pub returns-clause-gap : goal.returns-clause-gap
returns-clause-gap g c =
    let facts = c.binary_search_by_key.ensures in
    let by_number = facts.position g.T.Row.number (answers_always _ _ _ (λ f a r k called. search rules)) in
    searched_err g.T.Row.number c.args.rows.now c.requires c.args.number c.binary_search_by_key.result facts.bound by_number
