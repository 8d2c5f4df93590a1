use Rattle.std.proofs.Common.{◌∙◌, length, map, sym, ap, subst, rules}
use Rattle.std.specs.List.Sorted.{IsNonDecreasingBy}
use Rattle.std.specs.Ordering.{is_lt}
use Rattle.std.proofs.lemmas.List.{map-append}
use Rattle.std.proofs.lemmas.Bool.{eqb-true}
use Rattle.std.proofs.lemmas.List.Sorted.{IsPermutation-map, answers_always, ranks_by}
use Rattle.list_laws.proofs.Places.{empty}
use Rattle.network_model.specs.Table.{entry_cmp}
use Rattle.path_table.specs.Entries.{entry_of}
use Rattle.path_table.specs.declared.entry.Entry.{Entry}
use Rattle.path_table.proofs.Ordered.{entries_total}
use Rattle.twin_groups.specs.Copies.{copies_by_twin}
use Rattle.twin_groups.proofs.Copies.{all_there, none_there}
use Rattle.twin_groups.proofs.Runs.{by_terminal}
use Rattle.twin_groups.proofs.copying.joined.Goals as goal

pub returns-then-is_empty : goal.returns-then-is_empty
returns-then-is_empty c = none_there c.args.twins.now (map entry_of c.args.entries.items) (empty c.args.twins.now (eqb-true (length c.args.twins.now) 0 (sym c.if-is_empty.ensures)))

pub copies-requires : goal.copies-requires
copies-requires c =
    subst (IsNonDecreasingBy (λ (e : Entry). e.«from»)) (sym c.deref.ensures.value)
    (by_terminal c.sort_unstable_by.new.self.items (c.sort_unstable_by.ensures.sorted (λ (x y : Entry). is_lt (entry_cmp (entry_of x) (entry_of y))) (ranks_by entries_total entry_of) (answers_always _ _ _ (λ f a r g h. search rules))))

pub returns : goal.returns
returns c =
    all_there c.args.twins.now (map entry_of c.args.entries.items) (map entry_of c.sort_unstable_by.new.self.items) (map entry_of c.in_ok-all.all.items) (map entry_of c.append.new.self.items)
    (IsPermutation-map entry_of _ _ c.sort_unstable_by.ensures.permutation)
    (c.in_ok-all.ensures ∙ ap (λ es. copies_by_twin c.args.twins.now (map entry_of es)) c.deref.ensures.value)
    (ap (map entry_of) c.in_ok-append.ensures.items ∙ map-append entry_of c.in_ok-all.all.items c.sort_unstable_by.new.self.items)
