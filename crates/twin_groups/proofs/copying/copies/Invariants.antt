use Rattle.std.proofs.Common.{◌≡◌, map, take}
use Rattle.path_table.specs.Entries.{entry_of}
use Rattle.twin_groups.specs.Copies.{copies_by_twin}
use Rattle.twin_groups.proofs.copying.copies.Given as goal

-- the copies for the twins so far
abbrev pub invariant-loop-twin : goal.invariant-loop-twin
invariant-loop-twin l = map entry_of l.more.items ≡ copies_by_twin (take l.twin-index l.twins) (map entry_of l.entries)
