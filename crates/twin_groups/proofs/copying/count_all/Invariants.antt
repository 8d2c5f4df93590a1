use Rattle.std.proofs.Common.{◌≡◌, ◌+◌, ◌-◌, ◌^◌, length, map, min, take}
use Rattle.path_table.specs.Entries.{entry_of}
use Rattle.twin_laws.specs.Shared.{entries_of_twins}
use Rattle.twin_groups.proofs.copying.count_all.Given as goal

-- the entries so far and their copies
abbrev pub invariant-loop-entry : goal.invariant-loop-entry
invariant-loop-entry l = l.count ≡ min (length (entries_of_twins l.twins (map entry_of (take l.entry-index l.entries))) + l.entry-index) (2 ^ 64 - 1)
