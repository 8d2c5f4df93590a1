use Rattle.std.proofs.Common.{◌+◌, ◌++◌, List, map, length, ap, arith}
use Rattle.std.proofs.lemmas.List.{length-map, length-append}
use Rattle.std.proofs.lemmas.List.Sorted.{length_permutation}
use Rattle.network_model.specs.Table as model
use Rattle.path_table.specs.Entries.{entry_of}
use Rattle.twin_laws.specs.Shared.{entries_of_twins}
use Rattle.twin_groups.proofs.copying.with_copies.Goals as goal

pub returns-clause-within : goal.returns-clause-within
returns-clause-within c =
    let all = c.in_ok-joined.field-0.items in
    let entries = c.args.entries.items in
    let copied : List model.Entry = entries_of_twins c.args.twins.now (map entry_of entries) in
    omega (
      arith,
      c.count_all-count.ensures,
      ap (λ es. length (entries_of_twins c.args.twins.now (map entry_of es)) + length es) c.deref.ensures.value,
      length-map all entry_of,
      length-map entries entry_of,
      length-append copied (map entry_of entries),
      length_permutation (copied ++ map entry_of entries) (map entry_of all) c.in_ok-joined.ensures,
    )
