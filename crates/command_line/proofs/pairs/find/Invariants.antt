use Rattle.std.proofs.Common.{◌≡◌, ◌≢◌, ◌<◌, ℕ, Some}
use Rattle.std.specs.List.{slice_get}
use Rattle.command_line.specs.declared.name.Name.{Name}
use Rattle.command_line.proofs.pairs.find.Given as goal

-- none of the names so far is this word
abbrev pub invariant-loop-name : goal.invariant-loop-name
invariant-loop-name l = (k : ℕ) (x : Name) → k < l.name-index → slice_get l.names k ≡ Some x → x.word.now ≢ l.word
