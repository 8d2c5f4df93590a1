use Rattle.std.proofs.Common.{◌≡◌, ◌++◌, List, IsPermutation, subst, rules}
use Rattle.std.proofs.lemmas.List.Sorted.{IsPermutation-map, answers_always, ranks_by}
use Rattle.std.specs.Ordering.{is_lt}
use Rattle.network_model.specs.Table.{entry_cmp}
use Rattle.path_table.specs.Entries.{entry_of}
use Rattle.path_table.specs.declared.entry.Entry.{Entry}
use Rattle.path_table.proofs.Ordered.{entries_total, in_order, table_from_found}
use Rattle.path_table.proofs.table.Table.merged.Goals as goal

moved : (kept found all new : List Entry) → all ≡ kept ++ found → IsPermutation all new → IsPermutation (kept ++ found) new
moved kept found all new is = subst (λ (l : List Entry). IsPermutation l new) is

pub returns-clause-same : goal.returns-clause-same
returns-clause-same c =
    IsPermutation-map entry_of _ _
    (moved c.args.kept.items c.args.found.items c.append.new.self.items c.sort_by.new.self.items c.in_ok-append.ensures.items c.sort_by.ensures.permutation)

pub returns-clause-order : goal.returns-clause-order
returns-clause-order c =
    in_order entry_of (c.args.kept.items ++ c.args.found.items) c.sort_by.new.self.items c.requires
    (moved c.args.kept.items c.args.found.items c.append.new.self.items c.sort_by.new.self.items c.in_ok-append.ensures.items c.sort_by.ensures.permutation)
    (c.in_ok-sort_by.ensures.sorted (λ (x y : Entry). is_lt (entry_cmp (entry_of x) (entry_of y))) (ranks_by entries_total entry_of) (answers_always _ _ _ (λ f a r g h. search rules)))

pub returns-clause-table : goal.returns-clause-table
returns-clause-table c net hops found = table_from_found net hops _ _ found (returns-clause-same c) (returns-clause-order c)
