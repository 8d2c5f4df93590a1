use Rattle.std.proofs.Common.{◌≡◌, take, Contains, IfSome}
use Rattle.std.specs.List.{filter}
use Rattle.path_table.specs.Entries.{entry_of, starts_among}
use Rattle.path_table.specs.declared.entry.Entry.{Entry}
use Rattle.path_table.proofs.table.Table.starting_at.Given as goal

-- those so far that begin at one of the terminals, and one of the terminals, where some was found
abbrev pub invariant-loop-entry : goal.invariant-loop-entry
invariant-loop-entry l = record {
  kept : l.some.items ≡ filter (λ (e : Entry). starts_among l.terminals (entry_of e)) (take l.entry-index l.entry-items);
  latest : IfSome l.latest (Contains l.terminals);
}
