use Rattle.std.proofs.Common.{◌≡◌, ◌<◌, ℕ, Some, map}
use Rattle.std.specs.List.{slice_get}
use Rattle.std.specs.String.{string_bytes}
use Rattle.command_line.specs.declared.name.Name.{Name}
use Rattle.command_line.specs.Table.{IsRequired, IsGiven}
use Rattle.command_line.proofs.pairs.has_required.Given as goal

-- each of the names so far that must be given is given
abbrev pub invariant-loop-name : goal.invariant-loop-name
invariant-loop-name l = (k : ℕ) (x : Name) → k < l.name-index → slice_get l.names k ≡ Some x → IsRequired x.value → IsGiven (map string_bytes l.words) x.word.now
