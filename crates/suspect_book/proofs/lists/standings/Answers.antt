use Rattle.std.proofs.Common.{◌≡◌, ◌+◌, ℕ, List, slice_index, Contains, ap, ◌∙◌, subst, arith}
use Rattle.std.proofs.lemmas.List.Elements.{Contains-get_or}
use Rattle.network_model.specs.Cover.{rules_at, entry_at}
use Rattle.suspect_book.proofs.Listings.{up_all}
use Rattle.suspect_book.proofs.lists.standings.Goals as goal

pub add_entry-requires-clause-among : goal.add_entry-requires-clause-among
add_entry-requires-clause-among c i l =
    let rules = c.as_slice.result.now in
    let own : rules ≡ rules_at (entry_at c.args.table.now (c.loop-row.row + 1)) = c.as_slice.ensures ∙ ap rules_at c.in-Some.ensures in
    c.requires.among (c.loop-row.row + 1) (slice_index rules i) (subst (λ (xs : List ℕ). Contains xs (slice_index rules i)) own (Contains-get_or rules i 0 l))

pub returns : goal.returns
returns c =
    up_all c.loop-row.row c.args.numbers.now c.args.table.now c.loop-row.lists.items c.loop-row.invariant (omega (arith, c.loop-row-test.false, c.loop-row.auto.row-end, c.len-row-end.ensures))
