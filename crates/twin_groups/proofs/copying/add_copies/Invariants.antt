use Rattle.std.proofs.Common.{◌≡◌, ◌++◌, map, take}
use Rattle.path_table.specs.Entries.{entry_of}
use Rattle.twin_laws.specs.Twins.{as_from}
use Rattle.twin_groups.proofs.copying.add_copies.Given as goal

-- copies of the entries so far have joined
abbrev pub invariant-loop-entry : goal.invariant-loop-entry
invariant-loop-entry l = map entry_of l.more.items ≡ map entry_of l.fn.more.items ++ map (as_from l.start) (map entry_of (take l.entry-index l.entries))
